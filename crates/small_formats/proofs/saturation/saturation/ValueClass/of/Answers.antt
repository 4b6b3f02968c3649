use Rattle.std.proofs.Common.{◌∙◌}
use Rattle.small_formats.proofs.saturation_lemmas.FiniteValues.{class_of_category}
use Rattle.small_formats.proofs.saturation.saturation.ValueClass.of.Goals as goal

pub returns-in-NaN : goal.returns-in-NaN
returns-in-NaN c = λ x h. class_of_category x _ (h ∙ c.in-NaN.is)

pub returns-in-Infinity : goal.returns-in-Infinity
returns-in-Infinity c = λ x h. class_of_category x _ (h ∙ c.in-Infinity.is)

pub returns-in-Zero : goal.returns-in-Zero
returns-in-Zero c = λ x h. class_of_category x _ (h ∙ c.in-Zero.is)

pub returns-in-Normal : goal.returns-in-Normal
returns-in-Normal c = λ x h. class_of_category x _ (h ∙ c.in-Normal.is)
