-- A comparison has one answer.
use Rattle.std.proofs.Common.{sym, ◌∙◌}
use Rattle.apfloat_model.proofs.Determined.{same_answer}
use Rattle.ieee_operations.specs.{Comparisons.IsComparedOnce, TwoFormats.IsComparedBetweenOnce}

pub compared_once : IsComparedOnce
compared_once f predicate on_nan x y answer other h k =
    same_answer answer other (h.value_is ∙ sym k.value_is) (h.status_is ∙ sym k.status_is)

pub compared_between_once : IsComparedBetweenOnce
compared_between_once f g predicate on_nan x y answer other h k =
    same_answer answer other (h.value_is ∙ sym k.value_is) (h.status_is ∙ sym k.status_is)
