-- The numbers of `e4m3fn` without a sign, and its NaN, in 7 bits.
use Rattle.std.specs.Prelude.{ℕ, Bool, true, not, eqb, if◌then◌else◌}
use Rattle.std.specs.Bool.{MatchBool}
use Rattle.apfloat_model.specs.{declared.kinds.Round.Round, arithmetic.Conversions.IsConversion, bits.Layout.Layout}
use Rattle.apfloat_model.specs.{bits.Layout.datum_of, formats.Datum.Datum, formats.Datum.finite, formats.Datum.infinite}
use Rattle.apfloat_model.specs.formats.{Datum.nan, Format.Format, Format.payload_mask, Formats.e4m3fn_constants}
use Rattle.apfloat_model.specs.formats.{Lawful.format_with, Lawful.layout_with, Nan.invalid_bit, Nan.invalid_if}
use Rattle.apfloat_model.specs.{formats.Nan.is_signaling, rounding.Rounding.inexact_bit}
use Rattle.small_formats.specs.Scales.{IsCode}

abbrev pub signed_format : Format
signed_format = format_with e4m3fn_constants

abbrev pub signed_layout : Layout
signed_layout = layout_with e4m3fn_constants

-- the datum that the code, which is below 2 ^ 7, has in `e4m3fn`
abbrev pub unsigned_datum : ℕ → Datum
unsigned_datum code = datum_of signed_format signed_layout code

abbrev pub unsigned_nan_code : ℕ
unsigned_nan_code = 127

-- A value of the format f becomes this code. What is not below zero is converted as into `e4m3fn`; what is has no code,
-- and becomes the NaN, which is invalid. A NaN loses its payload and its sign.
abbrev pub IsUnsigned : Format → Round → Datum → ℕ → ℕ → Bool → Type 0
IsUnsigned f mode (nan b s) code status loses_info =
    IsCode unsigned_nan_code (invalid_if (is_signaling f s)) (not (eqb (payload_mask f) 0)) code status loses_info
IsUnsigned f mode (infinite b) code status loses_info =
    IsCode unsigned_nan_code (if b then invalid_bit else inexact_bit) true code status loses_info
IsUnsigned f mode (finite b n) code status loses_info =
    MatchBool b
    (MatchBool (eqb n 0) (IsCode 0 inexact_bit true code status loses_info)
    (IsCode unsigned_nan_code invalid_bit true code status loses_info))
    (IsConversion f signed_format mode (finite b n) (unsigned_datum code) status loses_info)
