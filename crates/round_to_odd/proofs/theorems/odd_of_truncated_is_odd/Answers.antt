use Rattle.round_to_odd.proofs.MadeOdd.{odd_of_truncated}
use Rattle.round_to_odd.proofs.theorems.odd_of_truncated_is_odd.Goals as goal

pub returns : goal.returns
returns c = odd_of_truncated
