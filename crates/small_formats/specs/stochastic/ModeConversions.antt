-- Conversions of a datum of f into g by the modes of conversions. What is not a number that is rounded becomes what it
-- does in each mode of IEEE 754.
use Rattle.std.specs.Prelude.{◌≡◌, ℕ, ◌*◌, ◌^◌, Bool, not, eqb}
use Rattle.std.specs.Bool.{MatchBool}
use Rattle.apfloat_model.specs.{declared.kinds.Round.TheVariants.NearestTiesToEven, arithmetic.Conversions.IsConversion}
use Rattle.apfloat_model.specs.formats.{Datum.Datum, Datum.finite, Datum.infinite, Datum.nan, Format.Format}
use Rattle.apfloat_model.specs.rounding.Rounding.{IsDelivered, delivered_status, delivered_value, ok_bits}
use Rattle.round_to_odd.specs.Odd.{IsToOdd}
use Rattle.small_formats.specs.declared.modes.ConversionRound.{ConversionRound}
use Rattle.small_formats.specs.declared.modes.ConversionRound.TheVariants.{Ieee, ToOdd, Stochastic}
use Rattle.small_formats.specs.{declared.modes.RandomDigits.RandomDigits, Modes.IsPickBy, Modes.ieee_mode}

-- The magnitude amount / parts quanta with that sign, as random digits pick one of its neighbours. A pick past the
-- largest value goes where the modes to nearest lead. The flags are those that one rounding has for that pick.
pub record IsRandomlyDelivered (f : Format) (bits : RandomDigits) (negative : Bool) (amount parts : ℕ) (value : Datum)
    (status : ℕ) : Type 0 where
  pub pick : ℕ
  pub is_pick : IsPickBy f.precision (Stochastic bits) negative amount parts pick
  pub value_is : value ≡ delivered_value f NearestTiesToEven negative pick
  pub status_is : status ≡ delivered_status f NearestTiesToEven negative amount parts pick

abbrev pub IsDeliveredBy : Format → ConversionRound → Bool → ℕ → ℕ → Datum → ℕ → Type 0
IsDeliveredBy f (Ieee mode) negative amount parts value status = IsDelivered f mode negative amount parts value status
IsDeliveredBy f ToOdd negative amount parts value status = IsToOdd f negative amount parts value status
IsDeliveredBy f (Stochastic bits) negative amount parts value status =
    IsRandomlyDelivered f bits negative amount parts value status

pub record IsNumberBy (f g : Format) (mode : ConversionRound) (negative : Bool) (quanta : ℕ) (value : Datum)
    (status : ℕ) (loses_info : Bool) : Type 0 where
  pub is_delivered : IsDeliveredBy g mode negative (quanta * 2 ^ g.scale) (2 ^ f.scale) value status
  pub loses_is : loses_info ≡ not (eqb status ok_bits)

-- as `IsConversion`; of the formats none has the flags of IEEE 754
abbrev pub IsConversionBy : Format → Format → ConversionRound → Datum → Datum → ℕ → Bool → Type 0
IsConversionBy f g mode (nan b s) value status loses_info =
    IsConversion f g (ieee_mode mode) (nan b s) value status loses_info
IsConversionBy f g mode (infinite b) value status loses_info =
    IsConversion f g (ieee_mode mode) (infinite b) value status loses_info
IsConversionBy f g mode (finite b n) value status loses_info =
    MatchBool (eqb n 0) (IsConversion f g (ieee_mode mode) (finite b n) value status loses_info)
    (IsNumberBy f g mode b n value status loses_info)
