use Rattle.apfloat_ieee.proofs.semantics.Semantics.to_bits.Goals as goal

pub returns-clause-written : goal.returns-clause-written
returns-clause-written g c = c.encode.ensures.written

pub returns-clause-only : goal.returns-clause-only
returns-clause-only g c = c.encode.ensures.only
