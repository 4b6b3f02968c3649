-- Whether two readings of a text agree, one of which drops the status.
use Rattle.std.specs.Prelude.{◌≡◌, Result, Ok, Err}
use Rattle.apfloat_model.specs.declared.{parse_error.ParseError.ParseError, status.StatusAnd.StatusAnd}

-- the same value, or refusals with the same words
abbrev pub AreOneValue : {A : Type 0} → Result A ParseError → Result (StatusAnd A) ParseError → Type 0
AreOneValue (Ok value) (Ok answer) = value ≡ answer.value
AreOneValue (Ok value) (Err error) = ⊥
AreOneValue (Err error) (Ok answer) = ⊥
AreOneValue (Err error) (Err other) = error.0.now ≡ other.0.now
