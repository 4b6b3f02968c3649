use Rattle.apfloat_ieee.proofs.impls.IeeeFloatFloat.to_bits.Goals as goal

pub returns-clause-written : goal.returns-clause-written
returns-clause-written g c = assumption

pub returns-clause-only : goal.returns-clause-only
returns-clause-only g c = assumption

pub returns-clause-below : goal.returns-clause-below
returns-clause-below g c = assumption

pub returns-clause-back : goal.returns-clause-back
returns-clause-back g c = assumption
