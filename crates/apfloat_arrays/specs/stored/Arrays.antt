-- Arrays of values of storage formats.
use Rattle.std.specs.Prelude.{◌≡◌, ℕ, ◌^◌, ◌<◌, Bool, List}
use Rattle.rustc_apfloat.specs.{declared.Round.Round, Classes.is_nan, Datum.Datum, Flags.bits_of, Lawful.Constants}
use Rattle.rustc_apfloat.specs.{Lawful.format_with, Lawful.layout_with, Layout.datum_of, Layout.IsEncodedBy}
use Rattle.formats_at_run_time.specs.BuiltIns.{constants_in}
use Rattle.formats_at_run_time.specs.FlaggedKinds.{flagged_constants, format_without_rule}
use Rattle.apfloat_arrays.specs.declared.widths.{Extended.Extended, Widths.Widths}
use Rattle.apfloat_arrays.specs.declared.{counts.Outcome.Outcome, stored.formats.StoredFormat.StoredFormat}
use Rattle.apfloat_arrays.specs.declared.stored.array.Ends.{Ends, TheVariants.Into, TheVariants.OutOf}
use Rattle.apfloat_arrays.specs.{declared.stored.array.StorageArray.StorageArray, Bytes.number_of, Widths.width_of}
use Rattle.apfloat_arrays.specs.stored.{Formats.bits_in, Formats.datum_in, Formats.format_in, Stored.IsStoredBy}
use Rattle.small_formats.specs.{declared.saturation.Overflow.Overflow, saturation.Saturation.IsConversionBy}

-- the value of these bits becomes this code
pub record IsStoredAs (overflow : Overflow) (c : Constants) (format : StoredFormat) (mode : Round) (bits code : ℕ)
    (outcome : Outcome) : Type 0 where
  pub is_stored : IsStoredBy overflow format (format_with c) mode (datum_of (format_with c) (layout_with c) bits) code
      (bits_of outcome.status)
  pub fits : code < 2 ^ bits_in format
  pub nan_is : outcome.is_nan ≡ is_nan (datum_in format code)

-- the value of this code is converted, and these are the bits of the result
pub record IsLoaded (overflow : Overflow) (format : StoredFormat) (d : Constants) (mode : Round) (code bits : ℕ)
    (outcome : Outcome) : Type 0 where
  pub value : Datum
  pub loses : Bool
  pub is_conversion : IsConversionBy overflow (format_in format) (format_with d) mode (datum_in format code) value
      (bits_of outcome.status) loses
  pub is_encoded : IsEncodedBy (format_with d) (layout_with d) bits value
  pub nan_is : outcome.is_nan ≡ is_nan value

-- a value of a storage format takes one byte
abbrev pub widths_with : Extended → Ends → Widths
widths_with extended (Into source target) = record { source = width_of source extended; target = 1 }
widths_with extended (OutOf source target) =
    record { source = 1; target = width_of (format_without_rule target) extended }

abbrev pub widths_of : StorageArray → Widths
widths_of array = widths_with array.extended array.ends

-- the same of the bytes of the value and of its code
abbrev pub IsStoredIn : Overflow → Constants → StoredFormat → Round → List ℕ → List ℕ → Outcome → Type 0
IsStoredIn overflow c format mode input output outcome =
    IsStoredAs overflow c format mode (number_of input) (number_of output) outcome

abbrev pub IsLoadedIn : Overflow → StoredFormat → Constants → Round → List ℕ → List ℕ → Outcome → Type 0
IsLoadedIn overflow format d mode input output outcome =
    IsLoaded overflow format d mode (number_of input) (number_of output) outcome

-- the input bytes are a value of the source format, and the output bytes its conversion
abbrev pub IsConvertedAt : Overflow → Round → Ends → List ℕ → List ℕ → Outcome → Type 0
IsConvertedAt overflow mode (Into source target) input output outcome =
    IsStoredIn overflow (constants_in source) target mode input output outcome
IsConvertedAt overflow mode (OutOf source target) input output outcome =
    IsLoadedIn overflow source (flagged_constants target) mode input output outcome

abbrev pub IsConverted : StorageArray → List ℕ → List ℕ → Outcome → Type 0
IsConverted array input output outcome = IsConvertedAt array.overflow array.round array.ends input output outcome
