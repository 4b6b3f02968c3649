-- A value that is not below zero keeps no sign when it is converted into `e4m3fn`.
use Rattle.std.proofs.Common.{◌≡◌, ℕ, zero, suc, Bool, true, false, cond, eqb, ltb, refl, ap, ◌∙◌, arith}
use Rattle.std.proofs.lemmas.Bool.{ne_eqb, MatchBool-at_false}
use Rattle.apfloat_model.specs.{declared.kinds.Round.Round, arithmetic.Conversions.IsConversion}
use Rattle.apfloat_model.specs.{arithmetic.Conversions.IsConvertedNumber, formats.Datum.Datum, formats.Datum.finite}
use Rattle.apfloat_model.specs.formats.{Datum.infinite, Datum.nan, Format.Format, Format.largest, Format.nan_base}
use Rattle.apfloat_model.specs.{order.Classes.is_finite, order.Classes.is_negative, rounding.Rounding.leads_out}
use Rattle.small_formats.specs.Unsigned.{signed_format}

pub kept_sign : (past leads none negative : Bool) (base most quanta : ℕ)
    → is_negative (cond past (cond leads (nan negative base) (finite negative most))
    (cond none (finite negative 0) (finite negative quanta))) ≡ negative
kept_sign true true none negative base most quanta = refl
kept_sign true false none negative base most quanta = refl
kept_sign false leads true negative base most quanta = refl
kept_sign false leads false negative base most quanta = refl

pub sign_converted : (f : Format) (mode : Round) (x value : Datum) (status : ℕ) (loses : Bool) → is_finite x ≡ true
    → is_negative x ≡ false → IsConversion f signed_format mode x value status loses → is_negative value ≡ false
sign_converted f mode (finite b zero) value status loses number positive h = ap is_negative h.value_is ∙ positive
sign_converted f mode (finite b (suc n)) value status loses number positive h =
    let some : eqb (suc n) 0 ≡ false = ne_eqb (suc n) 0 (λ e. omega (arith, e)) in
    let k = MatchBool-at_false _ (IsConvertedNumber f signed_format mode b (suc n) value status loses) some h in
    let d = k.is_delivered in
    ap is_negative d.value_is ∙ kept_sign (ltb (largest signed_format) d.pick) (leads_out mode b) (eqb d.pick 0) b
    (nan_base signed_format) (largest signed_format) d.pick ∙ positive
sign_converted f mode (infinite b) value status loses number positive h = cc
sign_converted f mode (nan b s) value status loses number positive h = cc
