-- A text is read in one way.
use Rattle.std.specs.Prelude.{◌≡◌, ℕ, ⊤, List, Result, Ok, Err}
use Rattle.apfloat_model.specs.declared.{kinds.Round.Round, parse_error.ParseError.ParseError}
use Rattle.apfloat_model.specs.{declared.status.StatusAnd.StatusAnd, formats.Datum.Datum, formats.Format.Format}
use Rattle.apfloat_model.specs.Determined.{AreOneReading}
use Rattle.apfloat_decimals.specs.declared.decimal.Decimal.{Decimal}
use Rattle.apfloat_decimals.specs.declared.parsing.DecimalError.{DecimalError, TheVariants.NoDecimal}
use Rattle.apfloat_decimals.specs.declared.parsing.DecimalError.TheVariants.{TooManyDigits, ExponentOutOfRange}
use Rattle.apfloat_decimals.specs.{DecimalTexts.IsDecimalRead, Parsing.IsParsed, ReadBack.IsStoredDecimal}

-- ---- as a value

-- whether special, hexadecimal or decimal, a text has one value with one status; a text with a fault has none, and is
-- refused with its message
abbrev pub IsReadOnce : Type 0
IsReadOnce =
    (f : Format) (mode : Round) (text : List ℕ) (answer other : Result (StatusAnd Datum) ParseError)
    → IsDecimalRead f mode text answer → IsDecimalRead f mode text other → AreOneReading answer other

-- ---- as a decimal

-- The numbers of a decimal that was read belong to their types. `IsParsed` alone does not say that: digits of 2 ^ 128
-- or more would be a result, besides the refusal.
abbrev pub IsStoredAnswer : Result Decimal DecimalError → Type 0
IsStoredAnswer (Ok decimal) = IsStoredDecimal decimal
IsStoredAnswer (Err error) = ⊤

-- the same decimal, or refusals for the same reason, with the same message
abbrev pub AreOneParsing : Result Decimal DecimalError → Result Decimal DecimalError → Type 0
AreOneParsing (Ok x) (Ok y) = x ≡ y
AreOneParsing (Ok x) (Err other) = ⊥
AreOneParsing (Err error) (Ok y) = ⊥
AreOneParsing (Err (NoDecimal error)) (Err (NoDecimal other)) = error.0.now ≡ other.0.now
AreOneParsing (Err (NoDecimal error)) (Err TooManyDigits) = ⊥
AreOneParsing (Err (NoDecimal error)) (Err ExponentOutOfRange) = ⊥
AreOneParsing (Err TooManyDigits) (Err (NoDecimal other)) = ⊥
AreOneParsing (Err TooManyDigits) (Err TooManyDigits) = ⊤
AreOneParsing (Err TooManyDigits) (Err ExponentOutOfRange) = ⊥
AreOneParsing (Err ExponentOutOfRange) (Err (NoDecimal other)) = ⊥
AreOneParsing (Err ExponentOutOfRange) (Err TooManyDigits) = ⊥
AreOneParsing (Err ExponentOutOfRange) (Err ExponentOutOfRange) = ⊤

abbrev pub IsParsedOnce : Type 0
IsParsedOnce =
    (text : List ℕ) (answer other : Result Decimal DecimalError) → IsStoredAnswer answer → IsStoredAnswer other
    → IsParsed text answer → IsParsed text other → AreOneParsing answer other
