-- Theorems about storage formats.
use Rattle.std.specs.Prelude.{◌≡◌, ℕ, ◌^◌, ◌<◌, ◌≤◌, Bool}
use Rattle.apfloat_model.specs.{declared.kinds.Round.Round, formats.Datum.Datum, formats.Format.Format}
use Rattle.small_formats.specs.{Codes.datum_of, Codes.point, Conversions.IsInto, Scales.IsScale}
use Rattle.small_formats.specs.{Storage.StorageConstants, Storage.IsLawfulStorage, Unsigned.IsUnsigned}

-- the point with the greater number is the greater one
abbrev pub AreCodesInOrder : Type 0
AreCodesInOrder = (precision i j : ℕ) → 1 ≤ precision → i < j → point precision i < point precision j

-- no two codes mean one number
abbrev pub IsCodeOnce : Type 0
IsCodeOnce =
    (c : StorageConstants) (code other : ℕ) (x : Datum) → IsLawfulStorage c → code < 2 ^ c.bits
    → other < 2 ^ c.bits → datum_of c code ≡ x → datum_of c other ≡ x → code ≡ other

-- the code, the flags and the loss of information are determined
abbrev pub IsIntoOnce : Type 0
IsIntoOnce =
    (c : StorageConstants) (f : Format) (mode : Round) (x : Datum) (code other status flags : ℕ) (loses lost : Bool)
    → IsLawfulStorage c → code < 2 ^ c.bits → other < 2 ^ c.bits → IsInto c f mode x code status loses
    → IsInto c f mode x other flags lost → (code ≡ other) × (status ≡ flags) × (loses ≡ lost)

abbrev pub IsScaleOnce : Type 0
IsScaleOnce =
    (f : Format) (mode : Round) (x : Datum) (code other status flags : ℕ) (loses lost : Bool)
    → IsScale f mode x code status loses → IsScale f mode x other flags lost
    → (code ≡ other) × (status ≡ flags) × (loses ≡ lost)

-- codes are below 2 ^ 7
abbrev pub IsUnsignedOnce : Type 0
IsUnsignedOnce =
    (f : Format) (mode : Round) (x : Datum) (code other status flags : ℕ) (loses lost : Bool)
    → code < 128 → other < 128 → IsUnsigned f mode x code status loses → IsUnsigned f mode x other flags lost
    → (code ≡ other) × (status ≡ flags) × (loses ≡ lost)
