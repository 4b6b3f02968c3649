use Rattle.small_formats.proofs.OneAnswer.{into_once}
use Rattle.small_formats.proofs.theorems.conversions_have_one_answer.Goals as goal

pub returns : goal.returns
returns c = into_once
