-- Two readings of one text.
use Rattle.std.specs.Prelude.{◌≡◌, Result, Ok, Err}
use Rattle.apfloat_model.specs.declared.{parse_error.ParseError.ParseError, status.StatusAnd.StatusAnd}
use Rattle.rustc_apfloat.specs.Datum.{Datum}

-- two values that satisfy the statement, or refusals with the same words
abbrev pub AreReadings : (StatusAnd Datum → StatusAnd Datum → Type 0) → Result (StatusAnd Datum) ParseError
    → Result (StatusAnd Datum) ParseError → Type 0
AreReadings Say (Ok one) (Ok other) = Say one other
AreReadings Say (Ok one) (Err error) = ⊥
AreReadings Say (Err error) (Ok one) = ⊥
AreReadings Say (Err error) (Err other) = error.0.now ≡ other.0.now
