use Rattle.apfloat_ieee.proofs.impls.IeeeFloatFloat.smallest.Goals as goal

pub returns : goal.returns
returns g c = rw c.packed.ensures (rw⁻¹ c.shape_of.ensures assumption)
