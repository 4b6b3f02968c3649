use Rattle.ieee_operations.proofs.OneAnswer.{compared_once}
use Rattle.ieee_operations.proofs.theorems.comparisons_have_one_answer.Goals as goal

pub returns : goal.returns
returns c = compared_once
