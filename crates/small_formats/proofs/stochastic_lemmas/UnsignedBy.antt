-- Conversions by the modes of conversions into `e4m3fn` without a sign.
use Rattle.std.proofs.Common.{◌≡◌, ℕ, zero, suc, Bool, true, false, eqb, ltb, sym, ap, ◌∙◌}
use Rattle.std.proofs.lemmas.Bool.{false≢true, MatchBool-at_false}
use Rattle.apfloat_model.specs.declared.kinds.Round.{Round, TheVariants.NearestTiesToEven, TheVariants.TowardZero}
use Rattle.apfloat_model.specs.formats.Datum.{Datum, finite, infinite, nan}
use Rattle.apfloat_model.specs.formats.Format.{Format, largest, nan_base}
use Rattle.apfloat_model.specs.order.Classes.{is_finite, is_negative}
use Rattle.apfloat_model.specs.rounding.Rounding.{delivered_value, leads_out}
use Rattle.round_to_odd.specs.Odd.{odd_between}
use Rattle.small_formats.specs.declared.modes.ConversionRound.{ConversionRound}
use Rattle.small_formats.specs.declared.modes.ConversionRound.TheVariants.{Ieee, Stochastic, ToOdd}
use Rattle.small_formats.specs.{Modes.ieee_mode, Unsigned.IsUnsigned, Unsigned.signed_format}
use Rattle.small_formats.specs.stochastic.ElementConversions.{IsUnsignedBy}
use Rattle.small_formats.specs.stochastic.ModeConversions.{IsConversionBy, IsDeliveredBy, IsNumberBy}
use Rattle.small_formats.proofs.{UnsignedSigns.kept_sign, ScaleModes.some_quanta}

-- ---- what is not rounded, and what is below zero

pub special_unsigned : (f : Format) (mode : ConversionRound) (x : Datum) (code status : ℕ) (loses : Bool)
    → is_finite x ≡ false → IsUnsigned f (ieee_mode mode) x code status loses → IsUnsignedBy f mode x code status loses
special_unsigned f mode (finite b n) code status loses number h = absurd (false≢true (sym number))
special_unsigned f mode (infinite b) code status loses number h = h
special_unsigned f mode (nan b s) code status loses number h = h

-- ---- the sign is kept

delivered_sign : (mode : Round) (b : Bool) (pick : ℕ) → is_negative (delivered_value signed_format mode b pick) ≡ b
delivered_sign mode b pick =
    kept_sign (ltb (largest signed_format) pick) (leads_out mode b) (eqb pick 0) b (nan_base signed_format)
    (largest signed_format) pick

sign_delivered : (mode : ConversionRound) (b : Bool) (amount parts : ℕ) (value : Datum) (status : ℕ)
    → IsDeliveredBy signed_format mode b amount parts value status → is_negative value ≡ b
sign_delivered (Ieee mode) b amount parts value status d = ap is_negative d.value_is ∙ delivered_sign mode b d.pick
sign_delivered ToOdd b amount parts value status d =
    ap is_negative d.value_is ∙ delivered_sign TowardZero b (odd_between d.below d.above)
sign_delivered (Stochastic bits) b amount parts value status d =
    ap is_negative d.value_is ∙ delivered_sign NearestTiesToEven b d.pick

pub sign_by : (f : Format) (mode : ConversionRound) (x value : Datum) (status : ℕ) (loses : Bool) → is_finite x ≡ true
    → is_negative x ≡ false → IsConversionBy f signed_format mode x value status loses → is_negative value ≡ false
sign_by f mode (finite b zero) value status loses number positive h = ap is_negative h.value_is ∙ positive
sign_by f mode (finite b (suc n)) value status loses number positive h =
    let k = MatchBool-at_false _ (IsNumberBy f signed_format mode b (suc n) value status loses) (some_quanta n) h in
    sign_delivered mode b _ _ value status k.is_delivered ∙ positive
sign_by f mode (infinite b) value status loses number positive h = absurd (false≢true number)
sign_by f mode (nan b s) value status loses number positive h = absurd (false≢true number)
