use Rattle.small_formats.proofs.OneAnswer.{code_once}
use Rattle.small_formats.proofs.theorems.extrema_have_one_answer.Goals as goal

pub returns : goal.returns
returns c = code_once
