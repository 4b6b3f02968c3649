use Rattle.exact_reductions.proofs.Laws.{total_something}
use Rattle.exact_reductions.proofs.theorems.sums_have_answers.Goals as goal

pub returns : goal.returns
returns c = total_something
