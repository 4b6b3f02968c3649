use Rattle.round_to_odd.proofs.OddOnce.{rounded_again_once}
use Rattle.round_to_odd.proofs.theorems.second_roundings_have_one_answer.Goals as goal

pub returns : goal.returns
returns c = rounded_again_once
