use Rattle.apfloat_ieee.proofs.impls.IeeeFloatFloat.round_to_integral.Goals as goal

pub returns : goal.returns
returns g c =
    let d = rw c.shape_of.ensures at c.round_to_integral.ensures.delivered in
    rw (c.unpacked.ensures.datum, c.answered.ensures.value, c.answered.ensures.status) (assumption d)
