-- Decimal texts as pairs of doubles (IEEE 754-2019 5.12.2).
use Rattle.std.specs.Prelude.{ℕ, List, Result, Ok, Err}
use Rattle.apfloat_model.specs.declared.{kinds.Round.Round, parse_error.ParseError.ParseError}
use Rattle.apfloat_model.specs.{declared.status.StatusAnd.StatusAnd, rounding.Flags.Gives}
use Rattle.apfloat_pair_theory.specs.{PairFormats.wide, Pairs.Pair, Pairs.IsSplitAnswer}
use Rattle.apfloat_decimals.specs.DecimalTexts.{IsDecimalReading, IsDecimalRefusal}

-- what the text is read as in the wide format, split, with the flags of that reading
abbrev pub IsPairDecimalReading : Round → List ℕ → Pair → ℕ → Type 0
IsPairDecimalReading mode text answer status = IsSplitAnswer (IsDecimalReading wide mode text) answer status

-- whether a text is refused does not depend on the format
abbrev pub IsPairDecimalRead : Round → List ℕ → Result (StatusAnd Pair) ParseError → Type 0
IsPairDecimalRead mode text (Ok answer) = Gives (IsPairDecimalReading mode text) answer
IsPairDecimalRead mode text (Err error) = IsDecimalRefusal text error.0.now
