-- What the text of a value is read as (IEEE 754-2019 5.12).
use Rattle.std.specs.Prelude.{◌≡◌, Result, Ok, Err}
use Rattle.apfloat_model.specs.declared.{parse_error.ParseError.ParseError, status.StatusAnd.StatusAnd}
use Rattle.apfloat_model.specs.formats.Datum.{Datum, finite, infinite, nan}
use Rattle.apfloat_model.specs.formats.{Format.Format, Nan.is_signaling}
use Rattle.apfloat_model.specs.{rounding.Flags.bits_of, rounding.Rounding.ok_bits, texts.Readings.read_nan}

-- the value itself; of a NaN, the one of its sign and kind that has no payload
abbrev pub back : Format → Datum → Datum
back f (finite negative quanta) = finite negative quanta
back f (infinite negative) = infinite negative
back f (nan negative significand) = read_nan f negative (is_signaling f significand) 0

-- the text is read as that value, with no flag
abbrev pub IsReadExactly : Datum → Result (StatusAnd Datum) ParseError → Type 0
IsReadExactly x (Ok answer) = (answer.value ≡ x) × (bits_of answer.status ≡ ok_bits)
IsReadExactly x (Err error) = ⊥

abbrev pub IsReadBack : Format → Datum → Result (StatusAnd Datum) ParseError → Type 0
IsReadBack f x answer = IsReadExactly (back f x) answer
