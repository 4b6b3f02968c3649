-- The status of the reading of a text.
use Rattle.std.specs.Prelude.{Result, Ok, Err, ⊤}
use Rattle.apfloat_model.specs.declared.{parse_error.ParseError.ParseError, status.StatusAnd.StatusAnd}
use Rattle.rustc_apfloat.specs.{Flags.bits_of, RaisedFlags.FlagsGoTogether}

-- a refusal has no status
abbrev pub HasFlagsTogether : {A : Type 0} → Result (StatusAnd A) ParseError → Type 0
HasFlagsTogether (Ok answer) = FlagsGoTogether (bits_of answer.status)
HasFlagsTogether (Err error) = ⊤
