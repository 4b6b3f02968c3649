use Rattle.apfloat_ieee.proofs.impls.IeeeFloatFloat.from_bits.Goals as goal

pub returns : goal.returns
returns g c = c.decode.ensures
