use Rattle.apfloat_arithmetic.proofs.terms.full_term.Goals as goal

pub returns-clause-fits : goal.returns-clause-fits
returns-clause-fits c = rw c.term_of.ensures.significand c.requires.operand.fits

pub returns-clause-full : goal.returns-clause-full
returns-clause-full c = rw c.term_of.ensures.significand c.requires.operand.full
