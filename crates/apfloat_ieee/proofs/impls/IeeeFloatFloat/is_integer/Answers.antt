use Rattle.apfloat_ieee.proofs.impls.IeeeFloatFloat.is_integer.Goals as goal

pub returns : goal.returns
returns g c =
    let d = rw c.shape_of.ensures at c.is_integer.ensures in
    rw c.unpacked.ensures.datum (assumption d)
