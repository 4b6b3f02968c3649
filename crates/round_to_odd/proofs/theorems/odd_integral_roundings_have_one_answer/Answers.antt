use Rattle.round_to_odd.proofs.OddOnce.{odd_integral_once}
use Rattle.round_to_odd.proofs.theorems.odd_integral_roundings_have_one_answer.Goals as goal

pub returns : goal.returns
returns c = odd_integral_once
