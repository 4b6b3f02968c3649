use Rattle.coded_calls.proofs.machine_operations.made.Goals as goal

pub returns-in-Operation : goal.returns-in-Operation
returns-in-Operation c = rw (c.in-Operation.is) c.operated.ensures

pub returns-in-Conversion : goal.returns-in-Conversion
returns-in-Conversion c = rw (c.in-Conversion.is) c.fill_without_rule.ensures
