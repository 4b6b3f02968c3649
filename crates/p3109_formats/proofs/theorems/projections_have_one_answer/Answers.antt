use Rattle.p3109_formats.proofs.OneAnswer.{projected_once}
use Rattle.p3109_formats.proofs.theorems.projections_have_one_answer.Goals as goal

pub returns : goal.returns
returns c = projected_once
