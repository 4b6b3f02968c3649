-- A text that is read as a decimal (IEEE 754-2019 5.12.2).
use Rattle.std.specs.Prelude.{◌≡◌, ◌⊎◌, ℕ, ◌+◌, ◌^◌, ◌<◌, ◌≤◌, ℤ, pos, neg_ℤ}
use Rattle.std.specs.Prelude.{◌≤ℤ◌, Bool, List, if◌then◌else◌, Option, Some, Result, Ok, Err}
use Rattle.apfloat_model.specs.declared.parse_error.Fault.{Fault, TheVariants.EmptyText, TheVariants.LoneMark}
use Rattle.apfloat_model.specs.texts.{Digits.is_empty, Faults.words}
use Rattle.apfloat_model.specs.texts.Specials.{mark_of, after_mark, is_minus}
use Rattle.apfloat_decimals.specs.declared.decimal.Decimal.{Decimal}
use Rattle.apfloat_decimals.specs.declared.parsing.DecimalError.{DecimalError, TheVariants.NoDecimal}
use Rattle.apfloat_decimals.specs.declared.parsing.DecimalError.TheVariants.{TooManyDigits, ExponentOutOfRange}
use Rattle.apfloat_decimals.specs.DecimalTexts.{IsDecimalText, body_fault}

-- the text spells digits * 10 ^ exponent with that sign
pub record Spells (text : List ℕ) (negative : Bool) (digits : ℕ) (exponent : ℤ) : Type 0 where
  pub sign : negative ≡ is_minus (mark_of text)
  pub is_text : IsDecimalText (after_mark text) digits exponent

-- the first fault of a text from the left, or none if the text is a decimal
abbrev pub plain_fault_of : List ℕ → Option Fault
plain_fault_of text =
    if is_empty text then Some EmptyText
    else (if is_empty (after_mark text) then Some LoneMark else body_fault (after_mark text))

-- a refusal has the message of the first fault
pub record IsRefusedFor (first : Option Fault) (said : List ℕ) : Type 0 where
  pub fault : Fault
  pub is_first : first ≡ Some fault
  pub says : said ≡ words fault

-- the digits of a text without a sign are too many
pub record HasTooManyDigits (body : List ℕ) : Type 0 where
  pub digits : ℕ
  pub exponent : ℤ
  pub is_text : IsDecimalText body digits exponent
  pub many : 2 ^ 128 ≤ digits

abbrev pub IsPast32Bits : ℤ → Type 0
IsPast32Bits exponent = (pos (2 ^ 31) ≤ℤ exponent) ⊎ (exponent ≤ℤ neg_ℤ (pos (2 ^ 31 + 1)))

-- the digits are few enough, but the exponent is out of range
pub record HasFarExponent (body : List ℕ) : Type 0 where
  pub digits : ℕ
  pub exponent : ℤ
  pub is_text : IsDecimalText body digits exponent
  pub few : digits < 2 ^ 128
  pub far : IsPast32Bits exponent

-- what is read of a text without a sign
abbrev pub IsParsedBody : Bool → List ℕ → Result Decimal DecimalError → Type 0
IsParsedBody negative body (Ok decimal) =
    (decimal.negative ≡ negative) × IsDecimalText body decimal.digits decimal.exponent
IsParsedBody negative body (Err (NoDecimal error)) = IsRefusedFor (body_fault body) error.0.now
IsParsedBody negative body (Err TooManyDigits) = HasTooManyDigits body
IsParsedBody negative body (Err ExponentOutOfRange) = HasFarExponent body

-- the decimal that the text spells, or the reason why there is none
abbrev pub IsParsed : List ℕ → Result Decimal DecimalError → Type 0
IsParsed text (Ok decimal) = Spells text decimal.negative decimal.digits decimal.exponent
IsParsed text (Err (NoDecimal error)) = IsRefusedFor (plain_fault_of text) error.0.now
IsParsed text (Err TooManyDigits) = HasTooManyDigits (after_mark text)
IsParsed text (Err ExponentOutOfRange) = HasFarExponent (after_mark text)
