use Rattle.rustc_apfloat.proofs.double_double_operations_lemmas.SumsOfParts.{number_delivered}
use Rattle.rustc_apfloat.proofs.double_double_operations.theorems.numbers_are_delivered.Goals as goal

pub returns : goal.returns
returns c = number_delivered
