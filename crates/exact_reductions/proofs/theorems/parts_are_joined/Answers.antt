use Rattle.exact_reductions.proofs.Laws.{tally_of_parts}
use Rattle.exact_reductions.proofs.theorems.parts_are_joined.Goals as goal

pub returns : goal.returns
returns c = tally_of_parts
