-- Rounding to odd, rounding again, and rounding to an odd integral datum have one answer each.
use Rattle.std.proofs.Common.{◌≡◌, ℕ, sym, ap, ◌∙◌}
use Rattle.apfloat_model.specs.{declared.kinds.Round.TheVariants.TowardZero, formats.Format.Format}
use Rattle.apfloat_model.specs.formats.Datum.{Datum, finite, infinite, nan}
use Rattle.apfloat_model.specs.rounding.{Flags.bits_of, Rounding.delivered_value, Rounding.delivered_status}
use Rattle.apfloat_model.proofs.Once.{Once, answer_once, conversion_once}
use Rattle.apfloat_model.proofs.Determined.{same_answer, gives_once}
use Rattle.apfloat_model.proofs.rounding.Neighbours.{below_unique, above_unique}
use Rattle.round_to_odd.specs.{Odd.odd_between, Odd.IsToOddOnce, Again.joined, Again.IsRoundedAgainOnce}
use Rattle.round_to_odd.specs.Wholes.{IsRoundToOddIntegral, IsOddIntegralOnce}

pub to_odd_once : IsToOddOnce
to_odd_once f negative amount parts answer other x y =
    let b : x.below ≡ y.below = below_unique f.precision x.below y.below amount parts x.is_below y.is_below in
    let a : x.above ≡ y.above = above_unique f.precision x.above y.above amount parts x.is_above y.is_above in
    same_answer answer other
    (x.value_is ∙ ap (λ (z : ℕ). delivered_value f TowardZero negative (odd_between z x.above)) b
    ∙ ap (λ (z : ℕ). delivered_value f TowardZero negative (odd_between y.below z)) a ∙ sym y.value_is)
    (x.status_is ∙ ap (λ (z : ℕ). delivered_status f TowardZero negative amount parts z) b ∙ sym y.status_is)

pub rounded_again_once : IsRoundedAgainOnce
rounded_again_once f g mode first answer other x y =
    let e = conversion_once f g mode first.value answer.value other.value x.again y.again x.loses_info y.loses_info
    x.is_conversion y.is_conversion in
    same_answer answer other e.0 (x.status_is ∙ ap (λ (z : ℕ). joined z (bits_of first.status)) e.1 ∙ sym y.status_is)

integral_once : (f : Format) (x : Datum) → Once (IsRoundToOddIntegral f x)
integral_once f (nan b s) = answer_once _ _
integral_once f (infinite b) = answer_once _ _
integral_once f (finite b n) = answer_once _ _

pub odd_integral_once : IsOddIntegralOnce
odd_integral_once f x answer other h k = gives_once (IsRoundToOddIntegral f x) (integral_once f x) answer other h k
