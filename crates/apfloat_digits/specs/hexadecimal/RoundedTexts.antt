-- A value rounded to a number of hexadecimal digits after the dot (IEEE 754-2019 5.12.3).
use Rattle.std.specs.Prelude.{◌≡◌, ℕ, ◌+◌, ◌*◌, ◌^◌, ◌<◌, ◌≤◌, ℤ, pos, ◌+ℤ◌, Bool}
use Rattle.std.specs.{Prelude.true, Prelude.eqb, Prelude.List, Bool.MatchBool}
use Rattle.apfloat_model.specs.arithmetic.{Exact.up, Exact.down, Exponents.IsLogarithm}
use Rattle.apfloat_model.specs.declared.kinds.Round.{Round}
use Rattle.apfloat_model.specs.formats.Datum.{Datum, finite, infinite, nan}
use Rattle.apfloat_model.specs.{formats.Format.Format, formats.Nan.is_signaling, whole_numbers.WholeNumbers.whole_pick}
use Rattle.apfloat_digits.specs.hexadecimal.HexTexts.{last_place, number_text, infinity_text, nan_text}

-- a value of that many quanta in units of the last digit is the fraction units / unit
abbrev pub units : Format → ℕ → ℕ → ℤ → ℕ
units f quanta places exponent = quanta * 2 ^ down (last_place f places exponent)

abbrev pub unit : Format → ℕ → ℤ → ℕ
unit f places exponent = 2 ^ up (last_place f places exponent)

-- n units of the last digit; 2 in the first digit becomes 1 with the next exponent
pub record IsHexCarried (places n : ℕ) (first : ℤ) (fraction : ℕ) (exponent : ℤ) : Type 0 where
  pub fitting : n < 2 * 16 ^ places → (n ≡ 16 ^ places + fraction) × (exponent ≡ first)
  pub carried : 2 * 16 ^ places ≤ n → (fraction ≡ 0) × (exponent ≡ first +ℤ pos 1)

-- at the place of the last digit, if the first one is that of the value, the integer that the mode picks
pub record IsHexRoundedNumber (f : Format) (mode : Round) (negative : Bool) (quanta places fraction : ℕ) (exponent : ℤ)
    (exact : Bool) : Type 0 where
  pub first : ℤ
  pub is_first : IsLogarithm f quanta first
  pub picked : IsHexCarried places
      (whole_pick mode negative (units f quanta places first) (unit f places first)) first fraction exponent
  -- whether that number is the value itself
  pub exact_is : exact ≡ eqb
      (whole_pick mode negative (units f quanta places first) (unit f places first) * unit f places first)
      (units f quanta places first)

pub record IsRoundedText (f : Format) (mode : Round) (negative : Bool) (quanta places : ℕ) (text : List ℕ)
    (exact : Bool) : Type 0 where
  pub fraction : ℕ
  pub exponent : ℤ
  pub number : IsHexRoundedNumber f mode negative quanta places fraction exponent exact
  pub text_is : text ≡ number_text negative 1 places fraction exponent

-- zeros, infinities and NaNs are exact
abbrev pub IsRoundedHexText : Format → Round → ℕ → Datum → List ℕ → Bool → Type 0
IsRoundedHexText f mode places (finite negative quanta) text exact =
    MatchBool (eqb quanta 0) ((text ≡ number_text negative 0 places 0 (pos 0)) × (exact ≡ true))
    (IsRoundedText f mode negative quanta places text exact)
IsRoundedHexText f mode places (infinite negative) text exact = (text ≡ infinity_text negative) × (exact ≡ true)
IsRoundedHexText f mode places (nan negative significand) text exact =
    (text ≡ nan_text negative (is_signaling f significand)) × (exact ≡ true)
