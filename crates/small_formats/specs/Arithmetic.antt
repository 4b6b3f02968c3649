-- Arithmetic of storage formats: the exact result is delivered once in the format of the model with the same numbers,
-- and where that is no number, one stands for it.
use Rattle.std.specs.Prelude.{◌≡◌, ℕ, ◌^◌, ◌<◌, false}
use Rattle.apfloat_model.specs.{declared.kinds.Round.Round, formats.Datum.Datum}
use Rattle.apfloat_model.specs.formats.{Datum.finite, Datum.infinite, Datum.nan, Format.Format, Format.largest}
use Rattle.apfloat_model.specs.rounding.Outcome.{Outcome, Yields}
use Rattle.small_formats.specs.{Codes.datum_of, Storage.StorageConstants, Storage.IsLawfulStorage, Storage.format_with}

-- as for integers, an infinity is the largest number of its sign, and a NaN zero
abbrev pub stored_datum : Format → Datum → Datum
stored_datum f (nan b s) = finite false 0
stored_datum f (infinite b) = finite b (largest f)
stored_datum f (finite b n) = finite b n

-- the code stands for what the exact result of an operation is delivered as, and has its flags
pub record IsStored (c : StorageConstants) (mode : Round) (outcome : Outcome) (code status : ℕ) : Type 0 where
  pub value : Datum
  pub yields : Yields (format_with c) mode outcome value status
  pub value_is : datum_of c code ≡ stored_datum (format_with c) value

-- the code and the flags are determined
abbrev pub IsStoredOnce : Type 0
IsStoredOnce =
    (c : StorageConstants) (mode : Round) (outcome : Outcome) (code other status flags : ℕ) → IsLawfulStorage c
    → code < 2 ^ c.bits → other < 2 ^ c.bits → IsStored c mode outcome code status
    → IsStored c mode outcome other flags → (code ≡ other) × (status ≡ flags)
