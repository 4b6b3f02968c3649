use Rattle.coded_calls.proofs.fewer_digits.rounded_to.Goals as goal

pub returns-in-Operation : goal.returns-in-Operation
returns-in-Operation g c = rw (c.in-Operation.is) c.operation_rounded_to.ensures
