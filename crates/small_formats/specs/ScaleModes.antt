-- Conversions into scales by the modes of conversions. Codes decide what is odd, and the two powers of two around a
-- number are the neighbours that random digits choose from.
use Rattle.std.specs.Prelude.{◌≡◌, ℕ, Bool, false}
use Rattle.apfloat_model.specs.{declared.kinds.Round.Round, formats.Datum.Datum, formats.Format.Format}
use Rattle.small_formats.specs.declared.modes.ConversionRound.{ConversionRound, TheVariants.Ieee}
use Rattle.small_formats.specs.Modes.{ieee_mode, takes_next}
use Rattle.small_formats.specs.Scales.{IsDeliveredScale, IsScale, IsScaleIn}

-- what is delivered for a pick, and the flags, are those of a mode of IEEE 754
abbrev pub IsDeliveredScaleBy : ConversionRound → ℕ → ℕ → ℕ → ℕ → Type 0
IsDeliveredScaleBy mode amount parts code status =
    IsDeliveredScale (ieee_mode mode) (takes_next mode false) amount parts code status

-- A value of the format f becomes this code. What is not rounded is the same in each mode.
abbrev pub IsScaleBy : Format → ConversionRound → Datum → ℕ → ℕ → Bool → Type 0
IsScaleBy f mode x code status loses_info =
    IsScaleIn f (ieee_mode mode) (takes_next mode false) x code status loses_info

-- ---- theorems

-- the code, the flags and the loss of information are determined
abbrev pub IsScaleByOnce : Type 0
IsScaleByOnce =
    (f : Format) (mode : ConversionRound) (x : Datum) (code other status flags : ℕ) (loses lost : Bool)
    → IsScaleBy f mode x code status loses → IsScaleBy f mode x other flags lost
    → (code ≡ other) × (status ≡ flags) × (loses ≡ lost)

-- in a mode of IEEE 754 the conversion is that of `Scales`
abbrev pub AreScalesOfModes : Type 0
AreScalesOfModes =
    (f : Format) (mode : Round) (x : Datum) (code status : ℕ) (loses : Bool)
    → IsScaleBy f (Ieee mode) x code status loses → IsScale f mode x code status loses
