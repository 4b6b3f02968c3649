use Rattle.apfloat_ieee.proofs.ieee_float.encode.Goals as goal

pub returns-clause-written : goal.returns-clause-written
returns-clause-written g c =
    let d = rw (c.shape_of.ensures, c.widths_of.ensures.value) at c.encode.ensures.encoded in
    rw c.unpacked.ensures.datum d

pub returns-clause-only : goal.returns-clause-only
returns-clause-only g c =
    let d = rw (c.shape_of.ensures, c.widths_of.ensures.value) at c.encode.ensures.only in
    rw c.unpacked.ensures.datum d
