use Rattle.round_to_odd.proofs.RoundedOnce.{rounded_once}
use Rattle.round_to_odd.proofs.theorems.rounding_again_is_rounding_once.Goals as goal

pub returns : goal.returns
returns c = rounded_once
