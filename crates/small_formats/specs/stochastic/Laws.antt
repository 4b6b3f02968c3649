-- Theorems about conversions by the modes of conversions.
use Rattle.std.specs.Prelude.{◌≡◌, ℕ, Bool}
use Rattle.apfloat_model.specs.{declared.kinds.Round.Round, arithmetic.Conversions.IsConversion}
use Rattle.apfloat_model.specs.formats.{Datum.Datum, Format.Format}
use Rattle.small_formats.specs.declared.modes.ConversionRound.{ConversionRound, TheVariants.Ieee}
use Rattle.small_formats.specs.stochastic.ModeConversions.{IsConversionBy}

-- the value, the flags and the loss of information are determined
abbrev pub IsConversionByOnce : Type 0
IsConversionByOnce =
    (f g : Format) (mode : ConversionRound) (x value other : Datum) (status flags : ℕ) (loses lost : Bool)
    → IsConversionBy f g mode x value status loses → IsConversionBy f g mode x other flags lost
    → (value ≡ other) × (status ≡ flags) × (loses ≡ lost)

-- in a mode of IEEE 754 the conversion is that of the model
abbrev pub AreConversionsOfModel : Type 0
AreConversionsOfModel =
    (f g : Format) (mode : Round) (x value : Datum) (status : ℕ) (loses : Bool)
    → IsConversionBy f g (Ieee mode) x value status loses → IsConversion f g mode x value status loses
