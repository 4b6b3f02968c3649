use Rattle.small_formats.proofs.stochastic_lemmas.ElementsOnce.{unsigned_by_once}
use Rattle.small_formats.proofs.stochastic.theorems.unsigned_conversions_by_mode_have_one_answer.Goals as goal

pub returns : goal.returns
returns c = unsigned_by_once
