-- One value.
use Rattle.std.specs.Prelude.{◌≡◌, ℕ, Bool, List}
use Rattle.rustc_apfloat.specs.{declared.Round.Round, Flags.bits_of, Datum.Datum, Classes.is_nan, Lawful.Constants}
use Rattle.rustc_apfloat.specs.{Lawful.format_with, Lawful.layout_with, Layout.datum_of, Layout.IsEncodedBy}
use Rattle.apfloat_arrays.specs.declared.{converted.Converted.Converted, counts.Outcome.Outcome}
use Rattle.apfloat_arrays.specs.Bytes.{number_of}
use Rattle.small_formats.specs.{declared.saturation.saturation.Overflow.Overflow, saturation.Saturation.IsConversionBy}

-- The bits of the result are the canonical encoding of the conversion of the value that `bits` encode.
pub record IsAnswerAt (overflow : Overflow) (c d : Constants) (mode : Round) (bits result : ℕ) (outcome : Outcome)
    : Type 0 where
  pub value : Datum
  pub loses : Bool
  pub is_conversion : IsConversionBy overflow (format_with c) (format_with d) mode
      (datum_of (format_with c) (layout_with c) bits) value (bits_of outcome.status) loses
  pub is_encoded : IsEncodedBy (format_with d) (layout_with d) result value
  pub nan_is : outcome.is_nan ≡ is_nan value

abbrev pub IsAnswerFrom : Overflow → Constants → Constants → Round → ℕ → Converted → Type 0
IsAnswerFrom overflow c d mode bits answer = IsAnswerAt overflow c d mode bits answer.bits answer.outcome

-- the same from bytes to bytes: those beyond the width of the first format are ignored, those beyond the width of the
-- second are 0
abbrev pub IsConvertedBy : Overflow → Constants → Constants → Round → List ℕ → List ℕ → Outcome → Type 0
IsConvertedBy overflow c d mode input output outcome =
    IsAnswerAt overflow c d mode (number_of input) (number_of output) outcome
