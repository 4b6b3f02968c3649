use Rattle.round_to_odd.proofs.OddOnce.{to_odd_once}
use Rattle.round_to_odd.proofs.theorems.odd_roundings_have_one_answer.Goals as goal

pub returns : goal.returns
returns c = to_odd_once
