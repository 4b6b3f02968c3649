-- Conversions by the modes of conversions have one answer, and those in a mode of IEEE 754 are those of the model.
use Rattle.std.proofs.Common.{◌≡◌, ℕ, zero, suc, ◌*◌, ◌^◌, Bool, not, eqb, sym, ap, ◌∙◌}
use Rattle.std.proofs.lemmas.Bool.{MatchBool-at_false}
use Rattle.apfloat_model.specs.declared.kinds.Round.TheVariants.{NearestTiesToEven, TowardZero}
use Rattle.apfloat_model.specs.arithmetic.Conversions.{IsConvertedNumber}
use Rattle.apfloat_model.specs.formats.{Datum.Datum, Datum.finite, Datum.infinite, Datum.nan, Format.Format}
use Rattle.apfloat_model.specs.rounding.Rounding.{delivered_status, delivered_value, ok_bits}
use Rattle.apfloat_model.proofs.Once.{conversion_once as model_once}
use Rattle.apfloat_model.proofs.{general.Choices.match_false, rounding.Laws.delivered_once}
use Rattle.apfloat_model.proofs.rounding.Neighbours.{below_unique, above_unique}
use Rattle.round_to_odd.specs.Odd.{odd_between}
use Rattle.small_formats.specs.declared.modes.ConversionRound.{ConversionRound}
use Rattle.small_formats.specs.declared.modes.ConversionRound.TheVariants.{Ieee, Stochastic, ToOdd}
use Rattle.small_formats.specs.Modes.{ieee_mode, next_between}
use Rattle.small_formats.specs.stochastic.Laws.{AreConversionsOfModel, IsConversionByOnce}
use Rattle.small_formats.specs.stochastic.ModeConversions.{IsDeliveredBy, IsNumberBy}
use Rattle.small_formats.proofs.ScaleModes.{some_quanta}

delivered_by_once : (g : Format) (mode : ConversionRound) (negative : Bool) (amount parts : ℕ) (v w : Datum) (s t : ℕ)
    → IsDeliveredBy g mode negative amount parts v s → IsDeliveredBy g mode negative amount parts w t
    → (v ≡ w) × (s ≡ t)
delivered_by_once g (Ieee mode) negative amount parts v w s t x y =
    delivered_once g mode negative amount parts v w s t x y
delivered_by_once g ToOdd negative amount parts v w s t x y =
    let b : x.below ≡ y.below = below_unique g.precision x.below y.below amount parts x.is_below y.is_below in
    let a : x.above ≡ y.above = above_unique g.precision x.above y.above amount parts x.is_above y.is_above in (
      x.value_is
          ∙ ap (λ (z : ℕ). delivered_value g TowardZero negative (odd_between z x.above)) b
          ∙ ap (λ (z : ℕ). delivered_value g TowardZero negative (odd_between y.below z)) a ∙ sym y.value_is,
      x.status_is ∙ ap (λ (z : ℕ). delivered_status g TowardZero negative amount parts z) b ∙ sym y.status_is,
    )
delivered_by_once g (Stochastic bits) negative amount parts v w s t x y =
    let p = x.is_pick in
    let q = y.is_pick in
    let b : p.below ≡ q.below = below_unique g.precision p.below q.below amount parts p.is_below q.is_below in
    let a : p.above ≡ q.above = above_unique g.precision p.above q.above amount parts p.is_above q.is_above in
    let same : x.pick ≡ y.pick =
    p.is ∙ ap (λ (z : ℕ). next_between (Stochastic bits) negative z p.above amount parts) b
    ∙ ap (λ (z : ℕ). next_between (Stochastic bits) negative q.below z amount parts) a ∙ sym q.is in (
      x.value_is ∙ ap (λ (z : ℕ). delivered_value g NearestTiesToEven negative z) same ∙ sym y.value_is,
      x.status_is ∙ ap (λ (z : ℕ). delivered_status g NearestTiesToEven negative amount parts z) same
          ∙ sym y.status_is,
    )

pub conversion_once : IsConversionByOnce
conversion_once f g mode (nan b s) v w r t a o x y = model_once f g (ieee_mode mode) (nan b s) v w r t a o x y
conversion_once f g mode (infinite b) v w r t a o x y = model_once f g (ieee_mode mode) (infinite b) v w r t a o x y
conversion_once f g mode (finite b zero) v w r t a o x y =
    model_once f g (ieee_mode mode) (finite b zero) v w r t a o x y
conversion_once f g mode (finite b (suc n)) v w r t a o x y =
    let d = MatchBool-at_false _ (IsNumberBy f g mode b (suc n) v r a) (some_quanta n) x in
    let e = MatchBool-at_false _ (IsNumberBy f g mode b (suc n) w t o) (some_quanta n) y in
    let both =
    delivered_by_once g mode b (suc n * 2 ^ g.scale) (2 ^ f.scale) v w r t d.is_delivered e.is_delivered in (
      both.0,
      both.1,
      d.loses_is ∙ ap (λ (z : ℕ). not (eqb z ok_bits)) both.1 ∙ sym e.loses_is,
    )

pub conversion_of_model : AreConversionsOfModel
conversion_of_model f g mode (nan b s) value status loses x = x
conversion_of_model f g mode (infinite b) value status loses x = x
conversion_of_model f g mode (finite b zero) value status loses x = x
conversion_of_model f g mode (finite b (suc n)) value status loses x =
    let d = MatchBool-at_false _ (IsNumberBy f g (Ieee mode) b (suc n) value status loses) (some_quanta n) x in
    match_false (eqb (suc n) 0) _ (IsConvertedNumber f g mode b (suc n) value status loses) (some_quanta n)
    (record { is_delivered = d.is_delivered; loses_is = d.loses_is })
