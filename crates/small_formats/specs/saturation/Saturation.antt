-- Conversions that saturate: a number that overflows becomes the largest value of its sign.
use Rattle.std.specs.Prelude.{◌≡◌, ℕ, Bool, true, false, not, ◌&&◌, if◌then◌else◌}
use Rattle.apfloat_model.specs.{declared.kinds.Round.Round, formats.Format.Format, formats.Format.largest}
use Rattle.apfloat_model.specs.formats.{Datum.Datum, Datum.finite, Datum.infinite, Datum.nan, Nan.invalid_bit}
use Rattle.apfloat_model.specs.{rounding.Rounding.inexact_bit, order.Classes.is_finite, order.Classes.is_negative}
use Rattle.apfloat_model.specs.arithmetic.Conversions.{IsConversion, IsConverted}
use Rattle.small_formats.specs.declared.saturation.saturation.Overflow.{Overflow}
use Rattle.small_formats.specs.declared.saturation.saturation.Overflow.TheVariants.{Rounded, Saturated, Finite}
use Rattle.small_formats.specs.declared.saturation.saturation.FiniteNan.{FiniteNan, TheVariants.Kept}
use Rattle.small_formats.specs.declared.saturation.saturation.{FiniteNan.TheVariants.Largest, ValueClass.ValueClass}
use Rattle.small_formats.specs.declared.saturation.saturation.ValueClass.TheVariants.{Number, Infinity, NotANumber}

-- what a datum is, as far as saturation asks
abbrev pub class_of : Datum → ValueClass
class_of (nan b s) = NotANumber
class_of (infinite b) = Infinity
class_of (finite b n) = Number

-- The conversion of a finite datum is not finite only if it overflowed: it is then an infinity, or the NaN of a format
-- without infinities.
abbrev pub overflowed : Datum → Datum → Bool
overflowed x rounded = is_finite x && not (is_finite rounded)

-- the conversion of x, if `rounded` is what it is rounded to
abbrev pub saturated : Format → Datum → Datum → Datum
saturated g x rounded = if overflowed x rounded then finite (is_negative x) (largest g) else rounded

-- the flags are those of the conversion, including those of the overflow
pub record IsSaturatedConversion (f g : Format) (mode : Round) (x value : Datum) (status : ℕ)
    (loses_info : Bool) : Type 0 where
  pub rounded : Datum
  pub is_conversion : IsConversion f g mode x rounded status loses_info
  pub value_is : value ≡ saturated g x rounded

-- Only finite values: an infinity becomes the largest value of its sign, and a NaN is kept or becomes the largest
-- value.
abbrev pub IsFiniteNan : FiniteNan → Format → Format → Round → Bool → ℕ → Datum → ℕ → Bool → Type 0
IsFiniteNan Kept f g mode b s value status loses_info = IsConversion f g mode (nan b s) value status loses_info
IsFiniteNan Largest f g mode b s value status loses_info =
    IsConverted (finite false (largest g)) invalid_bit true value status loses_info

abbrev pub IsFiniteConversion : FiniteNan → Format → Format → Round → Datum → Datum → ℕ → Bool → Type 0
IsFiniteConversion nans f g mode (nan b s) value status loses_info =
    IsFiniteNan nans f g mode b s value status loses_info
IsFiniteConversion nans f g mode (infinite b) value status loses_info =
    IsConverted (finite b (largest g)) inexact_bit true value status loses_info
IsFiniteConversion nans f g mode (finite b n) value status loses_info =
    IsSaturatedConversion f g mode (finite b n) value status loses_info

abbrev pub IsConversionBy : Overflow → Format → Format → Round → Datum → Datum → ℕ → Bool → Type 0
IsConversionBy Rounded f g mode x value status loses_info = IsConversion f g mode x value status loses_info
IsConversionBy Saturated f g mode x value status loses_info = IsSaturatedConversion f g mode x value status loses_info
IsConversionBy (Finite nans) f g mode x value status loses_info =
    IsFiniteConversion nans f g mode x value status loses_info
