-- Roundings to integral data and conversions to integers have one answer.
use Rattle.std.proofs.Common.{sym, ◌∙◌}
use Rattle.apfloat_model.specs.{declared.kinds.Round.Round, formats.Format.Format}
use Rattle.apfloat_model.specs.formats.Datum.{Datum, finite, infinite, nan}
use Rattle.apfloat_model.proofs.{Once.Once, Once.answer_once, Determined.gives_once, Determined.same_answer}
use Rattle.ieee_operations.specs.WholeNumbers.{IsRoundedToIntegral, IsRoundedToIntegralOnce, IsConvertedExactlyOnce}
use Rattle.ieee_operations.specs.WholeNumbers.{IsConvertedOnce}

pub integral_once : (f : Format) (mode : Round) (x : Datum) → Once (IsRoundedToIntegral f mode x)
integral_once f mode (nan b s) = answer_once _ _
integral_once f mode (infinite b) = answer_once _ _
integral_once f mode (finite b n) = answer_once _ _

pub rounded_to_integral_once : IsRoundedToIntegralOnce
rounded_to_integral_once f mode x answer other h k =
    gives_once (IsRoundedToIntegral f mode x) (integral_once f mode x) answer other h k

pub converted_exactly_once : IsConvertedExactlyOnce
converted_exactly_once whole answer other h k =
    same_answer answer other (h.number_is ∙ sym k.number_is) (h.status_is ∙ sym k.status_is)

pub converted_once : IsConvertedOnce
converted_once f mode low high x answer other h k =
    same_answer answer other (h.number_is ∙ sym k.number_is) (h.status_is ∙ sym k.status_is)
