use Rattle.small_formats.proofs.RandomCounts.{stays_exact}
use Rattle.small_formats.proofs.theorems.exact_values_never_move.Goals as goal

pub returns : goal.returns
returns c = stays_exact
