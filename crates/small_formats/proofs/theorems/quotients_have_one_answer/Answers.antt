use Rattle.small_formats.proofs.QuotientsOnce.{quotient_once}
use Rattle.small_formats.proofs.theorems.quotients_have_one_answer.Goals as goal

pub returns : goal.returns
returns c = quotient_once
