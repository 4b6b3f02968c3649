-- Conversion of a datum of f into g (IEEE 754-2019 5.4.2 convertFormat, 6.2.3).
use Rattle.std.specs.Prelude.{◌≡◌, ℕ, ◌-◌, ◌*◌, ◌/◌, ◌%◌, ◌^◌, Bool, true, false, not, ◌&&◌, ◌||◌, eqb, if◌then◌else◌}
use Rattle.std.specs.{Prelude.⊤, Bool.MatchBool}
use Rattle.apfloat_model.specs.declared.kinds.{Round.Round, NonfiniteBehavior.NonfiniteBehavior}
use Rattle.apfloat_model.specs.declared.kinds.NonfiniteBehavior.TheVariants.{IEEE754, NanOnly, NanNegativeZero}
use Rattle.apfloat_model.specs.formats.{Format.Format, Format.payload_mask, Datum.Datum, Datum.finite, Datum.infinite}
use Rattle.apfloat_model.specs.formats.{Datum.nan, Constants.infinity_of, Nan.invalid_if, Nan.is_signaling, Nan.quieted}
use Rattle.apfloat_model.specs.formats.{Nan.quiet_significand, Nan.nan_sign, Members.IsFiniteOf}
use Rattle.apfloat_model.specs.rounding.Rounding.{ok_bits, inexact_bit, zero_sign, IsDelivered}
use Rattle.apfloat_model.specs.arithmetic.Exact.{same_sign}

-- ---- NaNs: the payload keeps its first bit

-- how many of the lowest bits of the significand are cut off
abbrev pub places_out : Format → Format → ℕ
places_out f g = if eqb (payload_mask f) 0 then 0 else f.precision - g.precision

abbrev pub converted_nan : Format → Format → Bool → ℕ → Datum
converted_nan f g negative significand =
    nan (nan_sign g.nonfinite negative)
    (quiet_significand g (quieted f significand * 2 ^ (g.precision - f.precision) / 2 ^ places_out f g))

-- whether a bit that was cut off is set, or the integer bit of a signaling NaN or the whole payload is lost
abbrev pub nan_loses : Format → Format → ℕ → Bool
nan_loses f g significand =
    not (eqb (quieted f significand % 2 ^ places_out f g) 0) ||
    ((f.explicit_integer_bit && not g.explicit_integer_bit && is_signaling f significand) ||
    (not (eqb (payload_mask f) 0) && eqb (payload_mask g) 0))

-- ---- zeros and infinities

abbrev pub has_infinities : NonfiniteBehavior → Bool
has_infinities IEEE754 = true
has_infinities NanOnly = false
has_infinities NanNegativeZero = false

-- whether the target lacks the zero of that sign
abbrev pub loses_zero_sign : Format → Bool → Bool
loses_zero_sign g negative = not (same_sign negative (zero_sign g.nonfinite negative))

-- ---- the result

pub record IsConverted (given : Datum) (flags : ℕ) (loses : Bool) (value : Datum) (status : ℕ)
    (loses_info : Bool) : Type 0 where
  pub value_is : value ≡ given
  pub status_is : status ≡ flags
  pub loses_is : loses_info ≡ loses

-- the datum is kept: either it is inexact and loses information, or it is exact and loses none
abbrev pub IsKept : Datum → Bool → Datum → ℕ → Bool → Type 0
IsKept given loses value status loses_info =
    IsConverted given (if loses then inexact_bit else ok_bits) loses value status loses_info

pub record IsConvertedNumber (f g : Format) (mode : Round) (negative : Bool) (quanta : ℕ) (value : Datum)
    (status : ℕ) (loses_info : Bool) : Type 0 where
  pub is_delivered : IsDelivered g mode negative (quanta * 2 ^ g.scale) (2 ^ f.scale) value status
  pub loses_is : loses_info ≡ not (eqb status ok_bits)

abbrev pub IsConversion : Format → Format → Round → Datum → Datum → ℕ → Bool → Type 0
IsConversion f g mode (nan b s) value status loses_info =
    IsConverted (converted_nan f g b s) (invalid_if (is_signaling f s)) (nan_loses f g s) value status loses_info
IsConversion f g mode (infinite b) value status loses_info =
    IsKept (infinity_of g b) (not (has_infinities g.nonfinite)) value status loses_info
IsConversion f g mode (finite b n) value status loses_info =
    MatchBool (eqb n 0)
    (IsKept (finite (zero_sign g.nonfinite b) 0) (loses_zero_sign g b) value status loses_info)
    (IsConvertedNumber f g mode b n value status loses_info)

-- ---- the law of exact conversion

-- if the same number is a datum of g too, it is the result, and nothing was lost
abbrev pub IsExactlyConverted : Format → Format → Datum → Datum → ℕ → Bool → Type 0
IsExactlyConverted f g (finite b m) value status loses_info =
    (n : ℕ) → n * 2 ^ f.scale ≡ m * 2 ^ g.scale → IsFiniteOf g b n
    → IsConverted (finite b n) ok_bits false value status loses_info
IsExactlyConverted f g x value status loses_info = ⊤
