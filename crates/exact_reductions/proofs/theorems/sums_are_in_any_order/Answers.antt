use Rattle.exact_reductions.proofs.Laws.{in_any_order}
use Rattle.exact_reductions.proofs.theorems.sums_are_in_any_order.Goals as goal

pub returns : goal.returns
returns c = in_any_order
