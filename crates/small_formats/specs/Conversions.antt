-- Conversions into a storage format without infinities and NaNs. docs/FORMATS.md has them as a table.
use Rattle.std.specs.Prelude.{◌≡◌, ℕ, ◌*◌, ◌^◌, Bool, true, false, not, eqb, ltb, if◌then◌else◌}
use Rattle.std.specs.Bool.{MatchBool}
use Rattle.apfloat_model.specs.{declared.kinds.Round.Round, formats.Format.Format, formats.Format.largest}
use Rattle.apfloat_model.specs.formats.{Datum.Datum, Datum.finite, Datum.infinite, Datum.nan, Nan.invalid_bit}
use Rattle.apfloat_model.specs.rounding.Rounding.{IsPick, delivered_status, ok_bits}
use Rattle.small_formats.specs.{Codes.datum_of, Storage.StorageConstants, Storage.format_with}

-- past the largest number there is nothing but that number
abbrev pub saturated_value : Format → Bool → ℕ → Datum
saturated_value f negative pick = if ltb (largest f) pick then finite negative (largest f) else finite negative pick

-- The magnitude amount / parts quanta with that sign, rounded once. The flags are those of the same rounding in a
-- format with infinities.
pub record IsSaturated (c : StorageConstants) (mode : Round) (negative : Bool) (amount parts code status : ℕ)
    : Type 0 where
  pub pick : ℕ
  pub is_pick : IsPick c.precision mode negative amount parts pick
  pub value_is : datum_of c code ≡ saturated_value (format_with c) negative pick
  pub status_is : status ≡ delivered_status (format_with c) mode negative amount parts pick

pub record IsStoredNumber (c : StorageConstants) (f : Format) (mode : Round) (negative : Bool) (quanta code status : ℕ)
    (loses_info : Bool) : Type 0 where
  pub is_rounded : IsSaturated c mode negative (quanta * 2 ^ (format_with c).scale) (2 ^ f.scale) code status
  pub loses_is : loses_info ≡ not (eqb status ok_bits)

pub record IsGiven (c : StorageConstants) (given : Datum) (flags : ℕ) (loses : Bool) (code status : ℕ)
    (loses_info : Bool) : Type 0 where
  pub value_is : datum_of c code ≡ given
  pub status_is : status ≡ flags
  pub loses_is : loses_info ≡ loses

-- A value of the format f becomes this code. As for integers, an infinity becomes the largest number of its sign, and a
-- NaN zero; both are invalid.
abbrev pub IsInto : StorageConstants → Format → Round → Datum → ℕ → ℕ → Bool → Type 0
IsInto c f mode (nan b s) code status loses_info = IsGiven c (finite false 0) invalid_bit true code status loses_info
IsInto c f mode (infinite b) code status loses_info =
    IsGiven c (finite b (largest (format_with c))) invalid_bit true code status loses_info
IsInto c f mode (finite b n) code status loses_info =
    MatchBool (eqb n 0) (IsGiven c (finite b 0) ok_bits false code status loses_info)
    (IsStoredNumber c f mode b n code status loses_info)
