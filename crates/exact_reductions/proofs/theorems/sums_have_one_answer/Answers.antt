use Rattle.exact_reductions.proofs.Laws.{total_once}
use Rattle.exact_reductions.proofs.theorems.sums_have_one_answer.Goals as goal

pub returns : goal.returns
returns c = total_once
