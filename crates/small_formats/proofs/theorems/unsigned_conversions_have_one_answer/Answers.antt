use Rattle.small_formats.proofs.OneAnswer.{unsigned_once}
use Rattle.small_formats.proofs.theorems.unsigned_conversions_have_one_answer.Goals as goal

pub returns : goal.returns
returns c = unsigned_once
