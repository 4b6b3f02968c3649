use Rattle.apfloat_ieee.proofs.impls.IeeeFloatFloat.is_denormal.Goals as goal

pub returns : goal.returns
returns g c =
    let d = rw c.shape_of.ensures at c.is_denormal.ensures in
    rw c.unpacked.ensures.datum (assumption d)
