use Rattle.small_formats.proofs.stochastic_lemmas.ElementsOnce.{e3m4_by_once}
use Rattle.small_formats.proofs.stochastic.theorems.e3m4_conversions_by_mode_have_one_answer.Goals as goal

pub returns : goal.returns
returns c = e3m4_by_once
