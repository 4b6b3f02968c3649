use Rattle.small_formats.proofs.stochastic_lemmas.OneAnswer.{conversion_once}
use Rattle.small_formats.proofs.stochastic.theorems.mode_conversions_have_one_answer.Goals as goal

pub returns : goal.returns
returns c = conversion_once
