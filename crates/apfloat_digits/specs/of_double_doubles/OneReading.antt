-- A text is read as one pair.
use Rattle.std.specs.Prelude.{ℕ, List, Result}
use Rattle.apfloat_model.specs.declared.{kinds.Round.Round, parse_error.ParseError.ParseError}
use Rattle.apfloat_model.specs.{declared.status.StatusAnd.StatusAnd, Determined.AreOneReading}
use Rattle.apfloat_pair_theory.specs.Pairs.{Pair}
use Rattle.apfloat_digits.specs.of_double_doubles.PairReadings.{IsPairDecimalRead}

-- whether special, hexadecimal or decimal, a text has one pair with one status; a text with a fault has none, and is
-- refused with its message
abbrev pub IsPairReadOnce : Type 0
IsPairReadOnce =
    (mode : Round) (text : List ℕ) (answer other : Result (StatusAnd Pair) ParseError)
    → IsPairDecimalRead mode text answer → IsPairDecimalRead mode text other → AreOneReading answer other
