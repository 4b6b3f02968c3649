use Rattle.coded_calls.proofs.instructions.shortened_unmasked.Goals as goal

pub returns-in-Single : goal.returns-in-Single
returns-in-Single c = rw (c.in-Single.is) c.unmasked_in.ensures

pub returns-in-Double : goal.returns-in-Double
returns-in-Double c = rw (c.in-Double.is) c.unmasked_in-in-Double.ensures
