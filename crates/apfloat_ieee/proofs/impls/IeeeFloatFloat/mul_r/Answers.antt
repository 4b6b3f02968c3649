use Rattle.apfloat_ieee.proofs.impls.IeeeFloatFloat.mul_r.Goals as goal

pub returns-clause-product : goal.returns-clause-product
returns-clause-product g c = assumption

pub returns-clause-opposite : goal.returns-clause-opposite
returns-clause-opposite g c = assumption
