use Rattle.std.proofs.Common.{rules}
use Rattle.apfloat_arithmetic.proofs.exact.exact_infinity.Goals as goal

pub returns-clause-stored : goal.returns-clause-stored
returns-clause-stored c = search rules steps 500000

pub returns-clause-answer : goal.returns-clause-answer
returns-clause-answer c = search rules steps 500000
