use Rattle.coded_calls.proofs.fewer_digits.operation_rounded_to.Goals as goal

pub returns-in-OfTwo : goal.returns-in-OfTwo
returns-in-OfTwo g c = rw (c.in-OfTwo.is) c.two_rounded_to.ensures

pub returns-in-SquareRoot : goal.returns-in-SquareRoot
returns-in-SquareRoot g c = rw (c.in-SquareRoot.is) c.root_rounded_to.ensures
