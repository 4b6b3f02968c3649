use Rattle.coded_calls.proofs.instructions.shortened.Goals as goal

pub returns-in-Single : goal.returns-in-Single
returns-in-Single c = rw (c.in-Single.is) c.with_24_digits.ensures

pub returns-in-Double : goal.returns-in-Double
returns-in-Double c = rw (c.in-Double.is) c.with_53_digits.ensures
