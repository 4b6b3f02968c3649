use Rattle.apfloat_ieee.proofs.convert.IeeeFloatFloatConvert.convert_r.Goals as goal

pub returns-clause-converted : goal.returns-clause-converted
returns-clause-converted g c =
    let d = rw (c.shape_of.ensures, c.shape_of-2.ensures) at c.convert-converted.ensures.converted in
    rw (c.answered.ensures.value, c.answered.ensures.status, c.unpacked.ensures.datum) d

pub returns-clause-exact : goal.returns-clause-exact
returns-clause-exact g c =
    let d = rw (c.shape_of.ensures, c.shape_of-2.ensures) at c.convert-converted.ensures.exact in
    rw (c.answered.ensures.value, c.answered.ensures.status, c.unpacked.ensures.datum) d
