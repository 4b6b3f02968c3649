-- Rounding to integral data and conversion to integers, with INEXACT and without it (IEEE 754-2019 5.8, 5.9).
use Rattle.std.specs.Prelude.{◌≡◌, ℕ, ◌-◌, ◌^◌, Bool, true, ◌||◌, ℤ, pos, neg_ℤ, int_lt}
use Rattle.apfloat_model.specs.{declared.kinds.Round.Round, declared.status.StatusAnd.StatusAnd, formats.Format.Format}
use Rattle.apfloat_model.specs.formats.Datum.{Datum, finite, infinite, nan}
use Rattle.apfloat_model.specs.{formats.Nan.IsOfNan, formats.Nan.invalid_if, arithmetic.Exact.signed}
use Rattle.apfloat_model.specs.rounding.{Answer.IsAnswer, Flags.Gives, Rounding.ok_bits, Rounding.signed_quanta}
use Rattle.apfloat_model.specs.whole_numbers.WholeNumbers.{whole_pick, whole_quanta}
use Rattle.apfloat_model.specs.whole_numbers.WholeNumbersOut.{Whole, whole_within}

-- ---- to an integral datum

-- the datum of roundToIntegralExact (`IsRoundToIntegral`), with no flag but that of a signaling NaN
abbrev pub IsRoundedToIntegral : Format → Round → Datum → Datum → ℕ → Type 0
IsRoundedToIntegral f mode (nan b s) value status = IsOfNan f b s value status
IsRoundedToIntegral f mode (infinite b) value status = IsAnswer (infinite b) ok_bits value status
IsRoundedToIntegral f mode (finite b n) value status =
    IsAnswer (signed_quanta f.nonfinite b (whole_quanta f mode b n)) ok_bits value status

-- ---- to an integer

-- the integer with its flags
pub record IsConvertedToIntegerExactly (answer : Whole) (number : ℤ) (status : ℕ) : Type 0 where
  pub number_is : number ≡ answer.number
  pub status_is : status ≡ answer.status

-- whether no integer from `low` to `high` is the rounded datum: the conversion is an invalid operation (7.2)
abbrev pub is_out_of_range : Format → Round → ℤ → ℤ → Datum → Bool
is_out_of_range f mode low high (nan b s) = true
is_out_of_range f mode low high (infinite b) = true
is_out_of_range f mode low high (finite b n) =
    int_lt (signed b (whole_pick mode b n (2 ^ f.scale))) low
    || int_lt high (signed b (whole_pick mode b n (2 ^ f.scale)))

-- the integer of the conversion with INEXACT, with no flag but that of an invalid operation
pub record IsConvertedToInteger (f : Format) (mode : Round) (low high : ℤ) (x : Datum) (number : ℤ) (status : ℕ)
    : Type 0 where
  pub number_is : number ≡ (whole_within f mode low high x).number
  pub status_is : status ≡ invalid_if (is_out_of_range f mode low high x)

abbrev pub IsConvertedToSigned : Format → Round → ℕ → Datum → ℤ → ℕ → Type 0
IsConvertedToSigned f mode width x number status =
    IsConvertedToInteger f mode (neg_ℤ (pos (2 ^ (width - 1)))) (pos (2 ^ (width - 1) - 1)) x number status

abbrev pub IsConvertedToUnsigned : Format → Round → ℕ → Datum → ℕ → ℕ → Type 0
IsConvertedToUnsigned f mode width x number status =
    IsConvertedToInteger f mode (pos 0) (pos (2 ^ width - 1)) x (pos number) status

-- ---- each has one answer

abbrev pub IsRoundedToIntegralOnce : Type 0
IsRoundedToIntegralOnce =
    (f : Format) (mode : Round) (x : Datum) (answer other : StatusAnd Datum)
    → Gives (IsRoundedToIntegral f mode x) answer → Gives (IsRoundedToIntegral f mode x) other → answer ≡ other

abbrev pub IsConvertedExactlyOnce : Type 0
IsConvertedExactlyOnce =
    (whole : Whole) (answer other : StatusAnd ℤ)
    → Gives (IsConvertedToIntegerExactly whole) answer → Gives (IsConvertedToIntegerExactly whole) other
    → answer ≡ other

abbrev pub IsConvertedOnce : Type 0
IsConvertedOnce =
    (f : Format) (mode : Round) (low high : ℤ) (x : Datum) (answer other : StatusAnd ℤ)
    → Gives (IsConvertedToInteger f mode low high x) answer → Gives (IsConvertedToInteger f mode low high x) other
    → answer ≡ other
