use Rattle.apfloat_ieee.proofs.impls.IeeeFloatFloat.ieee_rem.Goals as goal

pub returns : goal.returns
returns g c =
    let d = rw c.shape_of.ensures at c.nearest_remainder.ensures.delivered in
    rw (c.answered.ensures.value, c.answered.ensures.status, c.unpacked.ensures.datum, c.unpacked-2.ensures.datum) d
