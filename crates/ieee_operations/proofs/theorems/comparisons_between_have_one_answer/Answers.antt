use Rattle.ieee_operations.proofs.OneAnswer.{compared_between_once}
use Rattle.ieee_operations.proofs.theorems.comparisons_between_have_one_answer.Goals as goal

pub returns : goal.returns
returns c = compared_between_once
