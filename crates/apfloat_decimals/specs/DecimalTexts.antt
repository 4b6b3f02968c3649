-- Decimal texts: their grammar, their first fault, and the number that they spell (IEEE 754-2019 5.12.2).
use Rattle.std.specs.Prelude.{◌≡◌, ◌⊎◌, ℕ, ◌≤◌, ℤ, pos, ◌-ℤ◌, Bool, not, if◌then◌else◌, IsTrue, List, [], ◌∷◌, ◌++◌}
use Rattle.std.specs.Prelude.{length, drop, codes, Option, Some, None, is_some, Result, Ok, Err}
use Rattle.apfloat_model.specs.{formats.Format.Format, formats.Datum.Datum, rounding.Flags.Gives}
use Rattle.apfloat_model.specs.declared.{parse_error.ParseError.ParseError, status.StatusAnd.StatusAnd}
use Rattle.apfloat_model.specs.declared.kinds.Round.{Round}
use Rattle.apfloat_model.specs.declared.parse_error.Fault.{Fault, TheVariants.EmptyText, TheVariants.LoneMark}
use Rattle.apfloat_model.specs.texts.{Literals.exponent_number, Readings.IsReading}
use Rattle.apfloat_model.specs.texts.Digits.{every, begins, is_empty, run, after_run, is_decimal, number}
use Rattle.apfloat_model.specs.texts.Faults.{words, is_dot, begins_literal, after_prefix_fault}
use Rattle.apfloat_model.specs.texts.Specials.{mark_of, after_mark, is_minus, special_of}
use Rattle.apfloat_conversions.specs.DecimalTails.{is_e, fault_after}
use Rattle.apfloat_decimals.specs.Decimals.{IsDecimalDelivery}

-- ---- the grammar

-- the exponent of a text: nothing, which means 0; or a letter, an optional sign, and digits
abbrev pub IsWrittenExponent : List ℕ → ℤ → Type 0
IsWrittenExponent [] e = e ≡ pos 0
IsWrittenExponent (letter ∷ exponent) e =
    IsTrue (is_e letter) × IsTrue (every is_decimal (after_mark exponent)) × (1 ≤ length (after_mark exponent))
    × (e ≡ exponent_number exponent)

-- digits with at most one dot, and an exponent: the text of digits * 10 ^ exponent
pub record IsDecimalText (body : List ℕ) (digits : ℕ) (exponent : ℤ) : Type 0 where
  -- the digits before the dot, the dot if there is one, the digits after it, and the exponent
  pub whole : List ℕ
  pub point : List ℕ
  pub fraction : List ℕ
  pub tail : List ℕ
  pub written : ℤ
  pub spelled : body ≡ whole ++ (point ++ (fraction ++ tail))
  pub is_point : (point ≡ codes ".") ⊎ ((point ≡ []) × (fraction ≡ []))
  pub are_digits : IsTrue (every is_decimal (whole ++ fraction))
  pub has_digits : 1 ≤ length (whole ++ fraction)
  pub is_written : IsWrittenExponent tail written
  pub digits_are : digits ≡ number 10 (whole ++ fraction)
  pub exponent_is : exponent ≡ written -ℤ pos (length fraction)

-- ---- faults

-- the digits after a dot, if the text begins with one, and what follows them
abbrev pub fraction_in : List ℕ → List ℕ
fraction_in rest = if begins is_dot rest then run is_decimal (drop 1 rest) else []

abbrev pub after_fraction : List ℕ → List ℕ
after_fraction rest = if begins is_dot rest then after_run is_decimal (drop 1 rest) else rest

-- the digits of a text without a sign, on both sides of the dot
abbrev pub all_digits : List ℕ → List ℕ
all_digits body = run is_decimal body ++ fraction_in (after_run is_decimal body)

abbrev pub body_fault : List ℕ → Option Fault
body_fault body = fault_after (not (is_empty (all_digits body))) (after_fraction (after_run is_decimal body))

-- the first fault of a text from the left, or none if the text is a special, a hexadecimal or a decimal number
abbrev pub decimal_fault_of : List ℕ → Option Fault
decimal_fault_of text =
    if is_empty text then Some EmptyText
    else (if is_empty (after_mark text) then Some LoneMark
    else (if is_some (special_of text) then None
    else (if begins_literal (after_mark text) then after_prefix_fault (drop 2 (after_mark text))
    else body_fault (after_mark text))))

-- ---- results

-- the number that the text spells, rounded once, with the sign of the text
pub record IsSpelled (f : Format) (mode : Round) (negative : Bool) (body : List ℕ) (value : Datum)
    (status : ℕ) : Type 0 where
  pub digits : ℕ
  pub exponent : ℤ
  pub is_text : IsDecimalText body digits exponent
  pub delivered : IsDecimalDelivery f mode negative digits exponent value status

-- a decimal text is read as its number; infinities, NaNs and hexadecimal texts as `from_str_r` reads them
abbrev pub IsDecimalReading : Format → Round → List ℕ → Datum → ℕ → Type 0
IsDecimalReading f mode text value status =
    IsSpelled f mode (is_minus (mark_of text)) (after_mark text) value status ⊎ IsReading f mode text value status

-- a refusal has the message of the text's first fault
pub record IsDecimalRefusal (text said : List ℕ) : Type 0 where
  pub fault : Fault
  pub is_first : decimal_fault_of text ≡ Some fault
  pub says : said ≡ words fault

abbrev pub IsDecimalRead : Format → Round → List ℕ → Result (StatusAnd Datum) ParseError → Type 0
IsDecimalRead f mode text (Ok answer) = Gives (IsDecimalReading f mode text) answer
IsDecimalRead f mode text (Err error) = IsDecimalRefusal text error.0.now
