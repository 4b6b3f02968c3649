use Rattle.ieee_operations.proofs.Logarithms.{log_b_once}
use Rattle.ieee_operations.proofs.theorems.logarithms_have_one_answer.Goals as goal

pub returns : goal.returns
returns c = log_b_once
