use Rattle.exact_reductions.proofs.Laws.{dot_call_once}
use Rattle.exact_reductions.proofs.theorems.block_dots_have_one_answer.Goals as goal

pub returns : goal.returns
returns c = dot_call_once
