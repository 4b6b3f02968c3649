use Rattle.apfloat_ieee.proofs.impls.IeeeFloatFloat.from_u128_r.Goals as goal

pub returns : goal.returns
returns g c =
    let d = rw c.shape_of.ensures at c.from_unsigned.ensures.delivered in
    rw (c.answered.ensures.value, c.answered.ensures.status) (assumption d)
