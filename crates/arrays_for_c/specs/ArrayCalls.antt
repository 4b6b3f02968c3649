-- What a call on arrays asks for, or its error.
use Rattle.std.specs.Prelude.{ℕ, ◌/◌, ◌%◌, ◌==◌, nat_le, Bool, true, false, ◌&&◌, if◌then◌else◌}
use Rattle.std.specs.Prelude.{Option, Some, None, ok_or, option_and_then, Result, Ok, Err}
use Rattle.rustc_apfloat.specs.declared.Round.{Round}
use Rattle.formats_at_run_time.specs.declared.Arithmetic.TheVariants.{Sum, Difference, Product, Quotient}
use Rattle.formats_at_run_time.specs.declared.Arithmetic.TheVariants.{NearestRemainder, TruncatedRemainder}
use Rattle.formats_at_run_time.specs.declared.FlaggedKind.{FlaggedKind, TheVariants.OfFormat, TheVariants.Pairs}
use Rattle.formats_at_run_time.specs.FlaggedKinds.{flagged_kind_coded, format_without_rule}
use Rattle.formats_at_run_time.specs.Modes.{mode_coded}
use Rattle.small_formats.specs.declared.saturation.Overflow.TheVariants.{Rounded, Saturated, Finite}
use Rattle.small_formats.specs.declared.saturation.FiniteNan.TheVariants.{Kept, Largest}
use Rattle.apfloat_arrays.specs.declared.{Extended.TheVariants.Packed, Widths.Widths, stored.Ends.Ends}
use Rattle.apfloat_arrays.specs.declared.stored.Ends.TheVariants.{Into, OutOf}
use Rattle.apfloat_arrays.specs.{declared.stored.StoredFormat.StoredFormat, Widths.array_widths, Widths.width_of}
use Rattle.apfloat_arrays.specs.stored.{Arrays.widths_of, Formats.stored_format_coded}
use Rattle.arrays_for_c.specs.declared.array_calls.ArrayFormat.{ArrayFormat, TheVariants.OfKind, TheVariants.OfStorage}
use Rattle.arrays_for_c.specs.declared.array_calls.KnownConversion.{KnownConversion}
use Rattle.arrays_for_c.specs.declared.array_calls.KnownConversion.TheVariants.{BuiltIn, Storage}
use Rattle.arrays_for_c.specs.declared.array_calls.{ConversionMode.ConversionMode, ElementOperation.ElementOperation}
use Rattle.arrays_for_c.specs.declared.array_calls.ElementOperation.TheVariants.{OfTwo, FusedSum, SquareRoot}
use Rattle.arrays_for_c.specs.declared.array_calls.MapCall.{MapCall}
use Rattle.coded_calls.specs.KnownCalls.{◌>>=◌, no_such_operation, unknown_format, unknown_mode, wrong_length}

-- an integral number of values of the first width, and room for as many of the second
abbrev pub lengths_fit : ℕ → ℕ → ℕ → ℕ → Bool
lengths_fit source target given room = (given % source == 0) && nat_le (given / source) (room / target)

abbrev pub if_fitting : {A : Type 0} → Bool → A → Result A ℕ
if_fitting fits call = if fits then Ok call else Err wrong_length

-- ---- conversions

-- The code of a rounding mode in the eight lowest bits. The next one asks that numbers saturate, the one above it, with
-- it, that infinities do too, and the third, with both, that NaNs become the largest value.
abbrev pub with_overflow : ℕ → Round → Option ConversionMode
with_overflow bits round =
    if bits == 0 then Some (record { round = round; overflow = Rounded })
    else if bits == 1 then Some (record { round = round; overflow = Saturated })
    else if bits == 3 then Some (record { round = round; overflow = Finite Kept })
    else if bits == 7 then Some (record { round = round; overflow = Finite Largest })
    else None

abbrev pub conversion_mode_coded : ℕ → Option ConversionMode
conversion_mode_coded code = option_and_then (with_overflow (code / 256)) (mode_coded (code % 256))

-- no code is that of a built-in kind and of a storage format
abbrev pub format_among : Option FlaggedKind → Option StoredFormat → Option ArrayFormat
format_among (Some kind) stored = Some (OfKind kind)
format_among None (Some format) = Some (OfStorage format)
format_among None None = None

abbrev pub array_format_coded : ℕ → Option ArrayFormat
array_format_coded code = format_among (flagged_kind_coded code) (stored_format_coded code)

abbrev pub storage_between : Ends → ConversionMode → KnownConversion
storage_between ends mode =
    Storage (record { ends = ends; extended = Packed; round = mode.round; overflow = mode.overflow })

-- neither pairs of doubles are converted, nor values of a storage format to another one
abbrev pub conversion_between : ArrayFormat → ArrayFormat → ConversionMode → Option KnownConversion
conversion_between (OfKind (OfFormat source)) (OfKind (OfFormat target)) mode =
    Some (BuiltIn (record {
      source = format_without_rule source;
      target = target;
      round = mode.round;
      overflow = mode.overflow;
    }))
conversion_between (OfKind (OfFormat source)) (OfStorage target) mode =
    Some (storage_between (Into (format_without_rule source) target) mode)
conversion_between (OfStorage source) (OfKind (OfFormat target)) mode =
    Some (storage_between (OutOf source target) mode)
conversion_between source target mode = None

-- how many bytes a value takes, before and after its conversion
abbrev pub conversion_widths : KnownConversion → Widths
conversion_widths (BuiltIn conversion) = array_widths conversion
conversion_widths (Storage array) = widths_of array

abbrev pub fitting : ℕ → ℕ → KnownConversion → Result KnownConversion ℕ
fitting given room conversion =
    if_fitting (lengths_fit (conversion_widths conversion).source (conversion_widths conversion).target given room)
    conversion

-- The faults in their order: the format, the mode, the format converted to, that there is no conversion, the lengths.
abbrev pub known_array_conversion : Option ArrayFormat → Option ConversionMode → Option ArrayFormat → ℕ → ℕ
    → Result KnownConversion ℕ
known_array_conversion source mode target given room =
    ok_or source unknown_format >>= λ from. ok_or mode unknown_mode >>= λ rounding.
    ok_or target unknown_format >>= λ to.
    ok_or (conversion_between from to rounding) no_such_operation >>= fitting given room

-- ---- operations

abbrev pub operation_coded : ℕ → Option ElementOperation
operation_coded code =
    if code == 1 then Some (OfTwo Sum)
    else if code == 2 then Some (OfTwo Difference)
    else if code == 3 then Some (OfTwo Product)
    else if code == 4 then Some (OfTwo Quotient)
    else if code == 5 then Some (OfTwo NearestRemainder)
    else if code == 6 then Some (OfTwo TruncatedRemainder)
    else if code == 7 then Some FusedSum
    else if code == 8 then Some SquareRoot
    else None

abbrev pub operands_of : ElementOperation → ℕ
operands_of (OfTwo arithmetic) = 2
operands_of FusedSum = 3
operands_of SquareRoot = 1

-- pairs of doubles have no fused sum
abbrev pub has_element_operation : FlaggedKind → ElementOperation → Bool
has_element_operation Pairs FusedSum = false
has_element_operation kind operation = true

-- how many bytes an element takes
abbrev pub bytes_in : FlaggedKind → ℕ
bytes_in (OfFormat format) = width_of (format_without_rule format) Packed
bytes_in Pairs = 16

-- the length of an array of further operands: that of the first one, or 0 if there are none
abbrev pub operand_length : Bool → ℕ → ℕ
operand_length taken first = if taken then first else 0

abbrev pub operands_fit : ℕ → ℕ × ℕ × ℕ → Bool
operands_fit operands lengths =
    (lengths.1 == operand_length (nat_le 2 operands) lengths.0)
    && (lengths.2 == operand_length (nat_le 3 operands) lengths.0)

-- The faults in their order: the format, the mode, the operation, that the kind does not have it, the lengths.
abbrev pub known_map : Option FlaggedKind → Option Round → Option ElementOperation → ℕ × ℕ × ℕ → ℕ
    → Result MapCall ℕ
known_map kind mode operation lengths room =
    ok_or kind unknown_format >>= λ known. ok_or mode unknown_mode >>= λ rounding.
    ok_or operation no_such_operation >>= λ made.
    (if has_element_operation known made then
    if_fitting (lengths_fit (bytes_in known) (bytes_in known) lengths.0 room
    && operands_fit (operands_of made) lengths)
    (record { kind = known; round = rounding; operation = made })
    else Err no_such_operation)
