use Rattle.apfloat_ieee.proofs.impls.IeeeFloatFloat.category.Goals as goal

pub returns-clause-category : goal.returns-clause-category
returns-clause-category g c = assumption

pub returns-clause-member : goal.returns-clause-member
returns-clause-member g c = assumption
