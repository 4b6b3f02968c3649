use Rattle.apfloat_ieee.proofs.impls.IeeeFloatFloat.div_r.Goals as goal

pub returns : goal.returns
returns g c = assumption
