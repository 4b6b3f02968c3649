-- Conversions into a storage format by the modes of conversions, and by a choice of what a NaN becomes.
use Rattle.std.specs.Prelude.{◌≡◌, ℕ, ◌*◌, ◌^◌, Bool, true, false, not, eqb}
use Rattle.std.specs.Bool.{MatchBool}
use Rattle.apfloat_model.specs.formats.Format.{Format, largest}
use Rattle.apfloat_model.specs.formats.{Datum.Datum, Datum.finite, Datum.infinite, Datum.nan, Nan.invalid_bit}
use Rattle.apfloat_model.specs.rounding.Rounding.{delivered_status, ok_bits}
use Rattle.small_formats.specs.declared.modes.{ConversionRound.ConversionRound, NanResult.NanResult}
use Rattle.small_formats.specs.declared.modes.NanResult.TheVariants.{Zero, Largest}
use Rattle.small_formats.specs.{Codes.datum_of, Conversions.IsGiven, Conversions.saturated_value, Modes.IsPickBy}
use Rattle.small_formats.specs.{Modes.ieee_mode, Storage.StorageConstants, Storage.format_with}

-- as `IsSaturated`
pub record IsSaturatedBy (c : StorageConstants) (mode : ConversionRound) (negative : Bool)
    (amount parts code status : ℕ) : Type 0 where
  pub pick : ℕ
  pub is_pick : IsPickBy c.precision mode negative amount parts pick
  pub value_is : datum_of c code ≡ saturated_value (format_with c) negative pick
  pub status_is : status ≡ delivered_status (format_with c) (ieee_mode mode) negative amount parts pick

pub record IsStoredBy (c : StorageConstants) (f : Format) (mode : ConversionRound) (negative : Bool)
    (quanta code status : ℕ) (loses_info : Bool) : Type 0 where
  pub is_rounded : IsSaturatedBy c mode negative (quanta * 2 ^ (format_with c).scale) (2 ^ f.scale) code status
  pub loses_is : loses_info ≡ not (eqb status ok_bits)

abbrev pub nan_result : NanResult → Format → Datum
nan_result Zero f = finite false 0
nan_result Largest f = finite false (largest f)

-- A value of the format f becomes this code. An infinity becomes the largest number of its sign.
abbrev pub IsIntoBy : StorageConstants → Format → ConversionRound → NanResult → Datum → ℕ → ℕ → Bool → Type 0
IsIntoBy c f mode nans (nan b s) code status loses_info =
    IsGiven c (nan_result nans (format_with c)) invalid_bit true code status loses_info
IsIntoBy c f mode nans (infinite b) code status loses_info =
    IsGiven c (finite b (largest (format_with c))) invalid_bit true code status loses_info
IsIntoBy c f mode nans (finite b n) code status loses_info =
    MatchBool (eqb n 0) (IsGiven c (finite b 0) ok_bits false code status loses_info)
    (IsStoredBy c f mode b n code status loses_info)
