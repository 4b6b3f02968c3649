use Rattle.ieee_operations.proofs.IntegralOnce.{rounded_to_integral_once}
use Rattle.ieee_operations.proofs.theorems.integral_roundings_have_one_answer.Goals as goal

pub returns : goal.returns
returns c = rounded_to_integral_once
