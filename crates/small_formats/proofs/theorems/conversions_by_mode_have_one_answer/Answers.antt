use Rattle.small_formats.proofs.ModesOnce.{into_by_once}
use Rattle.small_formats.proofs.theorems.conversions_by_mode_have_one_answer.Goals as goal

pub returns : goal.returns
returns c = into_by_once
