use Rattle.small_formats.proofs.ScaleModes.{scale_once}
use Rattle.small_formats.proofs.theorems.scales_have_one_answer.Goals as goal

pub returns : goal.returns
returns c = scale_once
