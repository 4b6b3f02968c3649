use Rattle.ieee_operations.proofs.IntegralOnce.{converted_exactly_once, converted_once}
use Rattle.ieee_operations.proofs.theorems.integer_conversions_have_one_answer.Goals as goal

pub returns-clause-exact : goal.returns-clause-exact
returns-clause-exact c = converted_exactly_once

pub returns-clause-quiet : goal.returns-clause-quiet
returns-clause-quiet c = converted_once
