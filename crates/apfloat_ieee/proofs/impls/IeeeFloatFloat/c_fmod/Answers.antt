use Rattle.apfloat_ieee.proofs.impls.IeeeFloatFloat.c_fmod.Goals as goal

pub returns : goal.returns
returns g c = assumption
