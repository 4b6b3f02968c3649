use Rattle.ieee_operations.proofs.Logarithms.{integer_log_b_once}
use Rattle.ieee_operations.proofs.theorems.integer_logarithms_have_one_answer.Goals as goal

pub returns : goal.returns
returns c = integer_log_b_once
