use Rattle.apfloat_ieee.proofs.ieee_float.IeeeFloat.sqrt_r.Goals as goal

pub returns-clause-root : goal.returns-clause-root
returns-clause-root g c =
    let d = rw c.shape_of.ensures at c.square_root.ensures.delivered in
    rw (c.answered.ensures.value, c.answered.ensures.status, c.unpacked.ensures.datum) d
