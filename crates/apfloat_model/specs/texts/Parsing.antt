-- What a function that reads a text returns (IEEE 754-2019 5.12).
use Rattle.std.specs.Prelude.{ℕ, List, Result, Ok, Err}
use Rattle.apfloat_model.specs.declared.{kinds.Round.Round, parse_error.ParseError.ParseError}
use Rattle.apfloat_model.specs.{declared.status.StatusAnd.StatusAnd, rounding.Flags.Gives, formats.Format.Format}
use Rattle.apfloat_model.specs.{formats.Datum.Datum, texts.Readings.IsReading, texts.Readings.IsRefusal}

-- the value and the status of the text's meaning, or a refusal with the message for its first fault
abbrev pub IsRead : Format → Round → List ℕ → Result (StatusAnd Datum) ParseError → Type 0
IsRead f mode text (Ok answer) = Gives (IsReading f mode text) answer
IsRead f mode text (Err error) = IsRefusal text error.0.now

-- a result without its status
abbrev pub without_status : {A E : Type 0} → Result (StatusAnd A) E → Result A E
without_status (Ok answer) = Ok answer.value
without_status (Err error) = Err error
