use Rattle.ieee_operations.proofs.Logarithms.{scaled_once}
use Rattle.ieee_operations.proofs.theorems.scalings_have_one_answer.Goals as goal

pub returns : goal.returns
returns c = scaled_once
