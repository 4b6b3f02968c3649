-- Conversions into storage formats with any treatment of overflow.
use Rattle.std.specs.Prelude.{◌≡◌, ℕ, ◌^◌, ◌<◌, bit_and, Bool, false, not, ◌==◌, if◌then◌else◌}
use Rattle.std.specs.Bool.{MatchBool}
use Rattle.rustc_apfloat.specs.{declared.Round.Round, Classes.is_negative, Conversions.IsConversion, Format.Format}
use Rattle.rustc_apfloat.specs.{Nan.invalid_bit, Rounding.inexact_bit, Rounding.overflow_bit}
use Rattle.rustc_apfloat.specs.Datum.{Datum, finite, infinite, nan}
use Rattle.small_formats.specs.{Conversions.IsInto, Float8E3M4.e3m4_datum, Float8E3M4.e3m4_format, Scales.IsScale}
use Rattle.small_formats.specs.Unsigned.{IsUnsigned}
use Rattle.small_formats.specs.declared.saturation.FiniteNan.{FiniteNan, TheVariants.Kept, TheVariants.Largest}
use Rattle.small_formats.specs.declared.saturation.Overflow.{Overflow}
use Rattle.small_formats.specs.declared.saturation.Overflow.TheVariants.{Rounded, Saturated, Finite}
use Rattle.apfloat_arrays.specs.declared.stored.formats.StoredFormat.{StoredFormat, TheVariants.E2M1FN}
use Rattle.apfloat_arrays.specs.declared.stored.formats.StoredFormat.TheVariants.{E2M3FN, E3M2FN, E3M4, E8M0FNU, UE4M3}
use Rattle.apfloat_arrays.specs.stored.Formats.{bits_in, e2m1fn_constants, e2m3fn_constants, e3m2fn_constants}
use Rattle.apfloat_arrays.specs.stored.Formats.{keeps_infinity, largest_code}

-- a value of the format f becomes this code, by the storage format's own conversion
abbrev pub IsStored : StoredFormat → Format → Round → Datum → ℕ → ℕ → Bool → Type 0
IsStored E2M1FN f mode x code status loses = IsInto e2m1fn_constants f mode x code status loses
IsStored E2M3FN f mode x code status loses = IsInto e2m3fn_constants f mode x code status loses
IsStored E3M2FN f mode x code status loses = IsInto e3m2fn_constants f mode x code status loses
IsStored E3M4 f mode x code status loses = IsConversion f e3m4_format mode x (e3m4_datum code) status loses
IsStored E8M0FNU f mode x code status loses = IsScale f mode x code status loses
IsStored UE4M3 f mode x code status loses = IsUnsigned f mode x code status loses

pub record IsOwn (format : StoredFormat) (f : Format) (mode : Round) (x : Datum) (code status : ℕ) : Type 0 where
  pub loses : Bool
  pub is_stored : IsStored format f mode x code status loses

-- the code of a result with these flags: that of the largest number of the sign, if the conversion overflowed
abbrev pub saturated_code : StoredFormat → Bool → ℕ → ℕ → ℕ
saturated_code format negative code status =
    if not (bit_and status overflow_bit == 0) then largest_code format negative else code

-- the flags are those of the conversion, including those of the overflow
pub record IsSaturatedCode (format : StoredFormat) (f : Format) (mode : Round) (x : Datum)
    (code status : ℕ) : Type 0 where
  pub own : ℕ
  pub own_fits : own < 2 ^ bits_in format
  pub is_own : IsOwn format f mode x own status
  pub code_is : code ≡ saturated_code format (is_negative x) own status

pub record IsLargest (format : StoredFormat) (negative : Bool) (flags code status : ℕ) : Type 0 where
  pub code_is : code ≡ largest_code format negative
  pub status_is : status ≡ flags

-- Only finite values: an infinity becomes the largest number of its sign, if the format has infinities or a NaN in
-- their place, and numbers of that sign; and a NaN becomes what it becomes otherwise, or the largest number.
abbrev pub IsFiniteNanCode : FiniteNan → StoredFormat → Format → Round → Datum → ℕ → ℕ → Type 0
IsFiniteNanCode Kept format f mode x code status = IsOwn format f mode x code status
IsFiniteNanCode Largest format f mode x code status = IsLargest format false invalid_bit code status

abbrev pub IsFiniteCode : FiniteNan → StoredFormat → Format → Round → Datum → ℕ → ℕ → Type 0
IsFiniteCode nans format f mode (nan b s) code status = IsFiniteNanCode nans format f mode (nan b s) code status
IsFiniteCode nans format f mode (infinite b) code status =
    MatchBool (keeps_infinity format b) (IsOwn format f mode (infinite b) code status)
    (IsLargest format b inexact_bit code status)
IsFiniteCode nans format f mode (finite b n) code status = IsSaturatedCode format f mode (finite b n) code status

-- a value of the format f becomes this code, with this treatment of overflow
abbrev pub IsStoredBy : Overflow → StoredFormat → Format → Round → Datum → ℕ → ℕ → Type 0
IsStoredBy Rounded format f mode x code status = IsOwn format f mode x code status
IsStoredBy Saturated format f mode x code status = IsSaturatedCode format f mode x code status
IsStoredBy (Finite nans) format f mode x code status = IsFiniteCode nans format f mode x code status
