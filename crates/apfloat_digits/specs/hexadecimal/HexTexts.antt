-- How a value is written in hexadecimal digits (IEEE 754-2019 5.12.3).
use Rattle.std.specs.{Bool.MatchBool, Fmt.signed_decimal}
use Rattle.std.specs.Prelude.{◌≡◌, ◌≢◌, ◌⊎◌, ℕ, zero, suc, ◌+◌, ◌*◌, ◌/◌, ◌%◌, ◌^◌, ◌<◌, ℤ, pos, ◌+ℤ◌, ◌-ℤ◌, Bool, ltb}
use Rattle.std.specs.Prelude.{eqb, if◌then◌else◌, List, [], ◌∷◌, ◌++◌, codes}
use Rattle.apfloat_model.specs.{arithmetic.Exact.up, arithmetic.Exact.down, formats.Datum.Datum}
use Rattle.apfloat_model.specs.formats.{Datum.finite, Datum.infinite, Datum.nan, Format.Format, Nan.is_signaling}
use Rattle.apfloat_decimals.specs.Texts.{sign_text}

-- ---- characters

-- a digit from 0 to 15: 0 to 9, a to f
abbrev pub character : ℕ → ℕ
character d = if ltb d 10 then 48 + d else 87 + d

-- n in that many digits; of a larger number, its last ones
abbrev pub digits_text : ℕ → ℕ → List ℕ
digits_text zero n = []
digits_text (suc places) n = digits_text places (n / 16) ++ (character (n % 16) ∷ [])

-- digits after a dot, if there are any
abbrev pub dotted : ℕ → ℕ → List ℕ
dotted places fraction = if eqb places 0 then [] else codes "." ++ digits_text places fraction

-- the first digit, those after the dot, and the exponent of two
abbrev pub magnitude_text : ℕ → ℕ → ℕ → ℤ → List ℕ
magnitude_text first places fraction exponent =
    codes "0x" ++ (character first ∷ (dotted places fraction ++ (codes "p" ++ signed_decimal exponent)))

abbrev pub number_text : Bool → ℕ → ℕ → ℕ → ℤ → List ℕ
number_text negative first places fraction exponent =
    sign_text negative ++ magnitude_text first places fraction exponent

-- ---- numbers

-- the exponent of the last of the digits after the dot, counted from the quantum
abbrev pub last_place : Format → ℕ → ℤ → ℤ
last_place f places exponent = exponent -ℤ pos (4 * places) +ℤ pos f.scale

-- digits * 2 ^ (exponent - 4 * places) is that many quanta
abbrev pub IsNumberOf : Format → ℕ → ℕ → ℕ → ℤ → Type 0
IsNumberOf f quanta digits places exponent =
    quanta * 2 ^ down (last_place f places exponent) ≡ digits * 2 ^ up (last_place f places exponent)

-- 1.fraction * 2 ^ exponent, of which the last digit after the dot is not 0, is that many quanta
pub record IsShortestNumber (f : Format) (quanta places fraction : ℕ) (exponent : ℤ) : Type 0 where
  pub fits : fraction < 16 ^ places
  pub last : (places ≡ 0) ⊎ (fraction % 16 ≢ 0)
  pub number : IsNumberOf f quanta (16 ^ places + fraction) places exponent

pub record IsShortestText (f : Format) (negative : Bool) (quanta : ℕ) (text : List ℕ) : Type 0 where
  pub places : ℕ
  pub fraction : ℕ
  pub exponent : ℤ
  pub number : IsShortestNumber f quanta places fraction exponent
  pub text_is : text ≡ number_text negative 1 places fraction exponent

-- ---- values

abbrev pub infinity_text : Bool → List ℕ
infinity_text negative = sign_text negative ++ codes "inf"

-- a NaN is written without its payload
abbrev pub nan_text : Bool → Bool → List ℕ
nan_text negative signaling = sign_text negative ++ ((if signaling then codes "s" else []) ++ codes "nan")

-- the shortest text of a value, exactly
abbrev pub IsHexText : Format → Datum → List ℕ → Type 0
IsHexText f (finite negative quanta) text =
    MatchBool (eqb quanta 0) (text ≡ number_text negative 0 0 0 (pos 0)) (IsShortestText f negative quanta text)
IsHexText f (infinite negative) text = text ≡ infinity_text negative
IsHexText f (nan negative significand) text = text ≡ nan_text negative (is_signaling f significand)
