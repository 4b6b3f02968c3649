-- Results of unmasked overflow and underflow, whose exponents are wrapped (IEEE 754-1985 7.3, 7.4).
use Rattle.std.specs.Prelude.{◌≡◌, ℕ, ◌+◌, ◌-◌, ◌*◌, ◌/◌, ◌^◌, ℤ, pos, neg_ℤ, Bool, false, ⊤}
use Rattle.std.specs.Bool.{MatchBool}
use Rattle.apfloat_model.specs.declared.kinds.{NonfiniteBehavior.TheVariants.IEEE754, Round.TheVariants.TowardZero}
use Rattle.apfloat_model.specs.declared.status.StatusAnd.{StatusAnd}
use Rattle.apfloat_model.specs.formats.{Format.Format, Datum.Datum, Datum.finite}
use Rattle.apfloat_model.specs.formats.Members.{IsFiniteOf}
use Rattle.apfloat_model.specs.rounding.{Answer.IsAnswer, Flags.bits_of, Rounding.overflow_bit, Rounding.underflow_bit}
use Rattle.apfloat_model.specs.arithmetic.{Conversions.IsConversion, Exact.up, Exact.down, Scaling.IsScaling}
use Rattle.ieee_operations.specs.StatusFlags.{is_raised, raised}
use Rattle.apfloat_machines.specs.{Flushing.is_flushed, Theorems.IsOnce}

-- so many digits and the exponents from -2 ^ 20 to 2 ^ 20
abbrev pub unbounded : ℕ → Format
unbounded digits =
    record {
      precision = digits;
      scale = digits - 1 + 2 ^ 20;
      span = 2 ^ 21;
      nonfinite = IEEE754;
      explicit_integer_bit = false;
      tiny_before_rounding = false;
      ieee_flags = false;
    }

-- one more than the greatest exponent of a number, in IEEE 754 half of the number of biased exponents
abbrev pub half_of_exponents : Format → ℕ
half_of_exponents f = f.span + f.precision - f.scale

-- three quarters of the number of biased exponents
abbrev pub bias_adjustment : Format → ℕ
bias_adjustment f = 3 * half_of_exponents f / 2

-- a result in a format g times two to a power, as a datum of f, with one more flag
pub record IsMoved (g f : Format) (places : ℤ) (flag : ℕ) (wide : StatusAnd Datum) (value : Datum) (status : ℕ)
    : Type 0 where
  pub scaled : Datum
  pub is_scaled : IsScaling g TowardZero wide.value places scaled
  pub flags : ℕ
  pub loses_info : Bool
  pub is_converted : IsConversion g f TowardZero scaled value flags loses_info
  pub status_is : status ≡ raised (bits_of wide.status) flag

-- what overflows is divided, and what is tiny, exact or not, is multiplied by two to that power
abbrev pub IsWrapped : Format → Format → StatusAnd Datum → StatusAnd Datum → Datum → ℕ → Type 0
IsWrapped g f plain wide value status =
    let places = pos (bias_adjustment f) in
    let flags = bits_of plain.status in
    MatchBool (is_raised flags overflow_bit)
    (IsMoved g f (neg_ℤ places) overflow_bit wide value status)
    (MatchBool (is_flushed f plain.value flags)
    (IsMoved g f places underflow_bit wide value status)
    (IsAnswer plain.value flags value status))

-- ---- theorems

abbrev pub WrappedHaveOneAnswer : Type 0
WrappedHaveOneAnswer = (g f : Format) (plain wide : StatusAnd Datum) → IsOnce (IsWrapped g f plain wide)

-- if the number times that power is one of both formats, it is the value
abbrev pub IsExactlyMoved : Format → Format → ℤ → Datum → Datum → Type 0
IsExactlyMoved g f places (finite b m) value =
    (k n : ℕ) → k * 2 ^ down places ≡ m * 2 ^ up places → IsFiniteOf g b k → n * 2 ^ g.scale ≡ k * 2 ^ f.scale
    → IsFiniteOf f b n → value ≡ finite b n
IsExactlyMoved g f places x value = ⊤

abbrev pub MovedAreExact : Type 0
MovedAreExact =
    (g f : Format) (places : ℤ) (flag : ℕ) (wide : StatusAnd Datum) (value : Datum) (status : ℕ)
    → IsMoved g f places flag wide value status → IsExactlyMoved g f places wide.value value
