use Rattle.std.proofs.Common.{rules}
use Rattle.apfloat_arithmetic.proofs.remainders.counted_number.Goals as goal

pub returns-clause-answer : goal.returns-clause-answer
returns-clause-answer c = record { value_is = search rules steps 500000; status_is = search rules steps 500000 }

pub returns-clause-stored : goal.returns-clause-stored
returns-clause-stored c = search rules steps 500000
