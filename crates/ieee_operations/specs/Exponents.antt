-- The exponent of a datum with its flags (IEEE 754-2019 5.3.3, logB), and laws of scaled data (scaleB).
use Rattle.std.specs.Prelude.{◌≡◌, ℕ, ℤ, eqb, not, true, false}
use Rattle.std.specs.Bool.{MatchBool}
use Rattle.apfloat_model.specs.{declared.kinds.Round.Round, declared.status.StatusAnd.StatusAnd, formats.Format.Format}
use Rattle.apfloat_model.specs.formats.Datum.{Datum, finite, infinite, nan}
use Rattle.apfloat_model.specs.formats.{Constants.infinity_of, Nan.IsOfNan, Nan.invalid_if}
use Rattle.apfloat_model.specs.rounding.{Answer.IsAnswer, Flags.Gives, Rounding.ok_bits}
use Rattle.apfloat_model.specs.arithmetic.{Exponents.IsLogarithm, Exponents.IsIlogb, Quotients.div_by_zero_bit}
use Rattle.apfloat_model.specs.{arithmetic.Scaling.IsScaling, order.Classes.category_of}
use Rattle.apfloat_model.specs.{order.Classes.is_finite_non_zero_category, whole_numbers.WholeNumbers.IsFromSigned}
use Rattle.apfloat_conversions.specs.Scalings.{IsScaled}

-- the logarithm of a magnitude, which is not 0, as a datum, rounded once
pub record IsLogBOfNumber (f : Format) (mode : Round) (quanta : ℕ) (value : Datum) (status : ℕ) : Type 0 where
  pub exponent : ℤ
  pub is_logarithm : IsLogarithm f quanta exponent
  pub is_converted : IsFromSigned f mode exponent value status

abbrev pub IsLogB : Format → Round → Datum → Datum → ℕ → Type 0
IsLogB f mode (nan b s) value status = IsOfNan f b s value status
IsLogB f mode (infinite b) value status = IsAnswer (infinite false) ok_bits value status
IsLogB f mode (finite b n) value status =
    MatchBool (eqb n 0) (IsAnswer (infinity_of f true) div_by_zero_bit value status)
    (IsLogBOfNumber f mode n value status)

-- the exponent as an integer; a datum without one is an invalid operation
pub record IsIntegerLogB (f : Format) (x : Datum) (exponent : ℤ) (status : ℕ) : Type 0 where
  pub is_exponent : IsIlogb f x exponent
  pub status_is : status ≡ invalid_if (not (is_finite_non_zero_category (category_of x)))

-- each has one answer
abbrev pub IsLogBOnce : Type 0
IsLogBOnce =
    (f : Format) (mode : Round) (x : Datum) (answer other : StatusAnd Datum)
    → Gives (IsLogB f mode x) answer → Gives (IsLogB f mode x) other → answer ≡ other

abbrev pub IsIntegerLogBOnce : Type 0
IsIntegerLogBOnce =
    (f : Format) (x : Datum) (answer other : StatusAnd ℤ)
    → Gives (IsIntegerLogB f x) answer → Gives (IsIntegerLogB f x) other → answer ≡ other

abbrev pub IsScaledOnce : Type 0
IsScaledOnce =
    (f : Format) (mode : Round) (x : Datum) (places : ℤ) (answer other : StatusAnd Datum)
    → Gives (IsScaled f mode x places) answer → Gives (IsScaled f mode x places) other → answer ≡ other

-- a datum that is scaled with its status is scaled without it
abbrev pub IsScaledAlike : Type 0
IsScaledAlike =
    (f : Format) (mode : Round) (x : Datum) (places : ℤ) (value : Datum) (status : ℕ)
    → IsScaled f mode x places value status → IsScaling f mode x places value
