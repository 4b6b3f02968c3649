use Rattle.apfloat_ieee.proofs.impls.IeeeFloatFloat.add_r.Goals as goal

pub returns-clause-sum : goal.returns-clause-sum
returns-clause-sum g c = assumption

pub returns-clause-monotone : goal.returns-clause-monotone
returns-clause-monotone g c = assumption
