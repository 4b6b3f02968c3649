use Rattle.small_formats.proofs.stochastic_lemmas.OneAnswer.{conversion_of_model}
use Rattle.small_formats.proofs.stochastic.theorems.mode_conversions_are_conversions.Goals as goal

pub returns : goal.returns
returns c = conversion_of_model
