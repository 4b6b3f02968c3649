-- Conversions by the modes of conversions have one answer, and those by the five modes are those of the model.
use Rattle.std.proofs.Common.{◌≡◌, ℕ, zero, suc, ◌*◌, ◌^◌, ◌<◌, Bool, false, not, eqb, sym, ap, ◌∙◌, arith}
use Rattle.std.proofs.{lemmas.Bool.ne_eqb, lemmas.Bool.MatchBool-at_false, Math.Path.subst₂}
use Rattle.std.specs.Coded.{le_prop}
use Rattle.apfloat_model.specs.formats.{Datum.finite, Datum.infinite, Datum.nan, Format.Format}
use Rattle.apfloat_model.specs.rounding.Rounding.{delivered_status, ok_bits}
use Rattle.apfloat_model.proofs.general.Choices.{match_false}
use Rattle.apfloat_model.proofs.rounding.Neighbours.{below_unique, above_unique}
use Rattle.small_formats.specs.{ModeConversions.IsStoredBy, ModeLaws.IsIntoByOnce, ModeLaws.IsIntoOfModel}
use Rattle.small_formats.specs.{declared.modes.RandomDigits.RandomDigits, RandomDigits.AreRandomDigits}
use Rattle.small_formats.specs.declared.modes.ConversionRound.{ConversionRound, TheVariants.Ieee}
use Rattle.small_formats.specs.Conversions.{IsStoredNumber, saturated_value}
use Rattle.small_formats.specs.Modes.{IsPickBy, ieee_mode, next_between}
use Rattle.small_formats.specs.Storage.{StorageConstants, IsLawfulStorage, format_with}
use Rattle.small_formats.proofs.OneAnswer.{AreSame, code_once, given_once}
use Rattle.small_formats.proofs.RandomCounts.{picks_of_model}

digits_prop : (digits random : ℕ) (p q : AreRandomDigits digits random) → p ≡ q
digits_prop digits random p q =
    λ i. record { some = le_prop p.some q.some i; few = le_prop p.few q.few i; fits = le_prop p.fits q.fits i }

-- the same count of digits and the same number are the same random digits
pub same_digits : (a b : RandomDigits) → a.digits ≡ b.digits → a.random ≡ b.random → a ≡ b
same_digits a b digits random =
    let From : ℕ → ℕ → Type 0 = λ d r. (q : AreRandomDigits d r)
    → a ≡ record { digits = d; random = r; are_random = q } in
    let from : From a.digits a.random = λ q.
    ap (λ (h : AreRandomDigits a.digits a.random). record { digits = a.digits; random = a.random; are_random = h })
    (digits_prop a.digits a.random a.are_random q) in
    (subst₂ From digits random from) b.are_random

pub pick_by_once : (precision : ℕ) (mode : ConversionRound) (negative : Bool) (amount parts p q : ℕ)
    → IsPickBy precision mode negative amount parts p → IsPickBy precision mode negative amount parts q → p ≡ q
pick_by_once precision mode negative amount parts p q x y =
    let low : x.below ≡ y.below = below_unique precision x.below y.below amount parts x.is_below y.is_below in
    let high : x.above ≡ y.above = above_unique precision x.above y.above amount parts x.is_above y.is_above in
    x.is ∙ ap (λ (z : ℕ). next_between mode negative z x.above amount parts) low
    ∙ ap (λ (z : ℕ). next_between mode negative y.below z amount parts) high ∙ sym y.is

number_once : (c : StorageConstants) (f : Format) (mode : ConversionRound) (b : Bool) (n code other status flags : ℕ)
    (loses lost : Bool) → IsLawfulStorage c → code < 2 ^ c.bits → other < 2 ^ c.bits
    → IsStoredBy c f mode b n code status loses → IsStoredBy c f mode b n other flags lost
    → AreSame code status loses other flags lost
number_once c f mode b n code other status flags loses lost law l k x y =
    let amount : ℕ = n * 2 ^ (format_with c).scale in
    let parts : ℕ = 2 ^ f.scale in
    let v = x.is_rounded in
    let w = y.is_rounded in
    let same : v.pick ≡ w.pick = pick_by_once c.precision mode b amount parts v.pick w.pick v.is_pick w.is_pick in
    let told : status ≡ flags =
    v.status_is
    ∙ ap (λ (p : ℕ). delivered_status (format_with c) (ieee_mode mode) b amount parts p) same ∙ sym w.status_is in (
      code_once c code other (saturated_value (format_with c) b w.pick) law l k
          (v.value_is ∙ ap (λ (p : ℕ). saturated_value (format_with c) b p) same) w.value_is,
      told,
      x.loses_is ∙ ap (λ (s : ℕ). not (eqb s ok_bits)) told ∙ sym y.loses_is,
    )

pub into_by_once : IsIntoByOnce
into_by_once c f mode nans (nan b s) code other status flags loses lost law l k x y =
    given_once c _ _ _ code other status flags loses lost law l k x y
into_by_once c f mode nans (infinite b) code other status flags loses lost law l k x y =
    given_once c _ _ _ code other status flags loses lost law l k x y
into_by_once c f mode nans (finite b zero) code other status flags loses lost law l k x y =
    given_once c _ _ _ code other status flags loses lost law l k x y
into_by_once c f mode nans (finite b (suc n)) code other status flags loses lost law l k x y =
    let some : eqb (suc n) 0 ≡ false = ne_eqb (suc n) 0 (λ e. omega (arith, e)) in
    number_once c f mode b (suc n) code other status flags loses lost law l k
    (MatchBool-at_false _ (IsStoredBy c f mode b (suc n) code status loses) some x)
    (MatchBool-at_false _ (IsStoredBy c f mode b (suc n) other flags lost) some y)

pub into_of_model : IsIntoOfModel
into_of_model c f mode (nan b s) code status loses x = x
into_of_model c f mode (infinite b) code status loses x = x
into_of_model c f mode (finite b zero) code status loses x = x
into_of_model c f mode (finite b (suc n)) code status loses x =
    let some : eqb (suc n) 0 ≡ false = ne_eqb (suc n) 0 (λ e. omega (arith, e)) in
    let y = MatchBool-at_false _ (IsStoredBy c f (Ieee mode) b (suc n) code status loses) some x in
    let r = y.is_rounded in
    match_false (eqb (suc n) 0) _ (IsStoredNumber c f mode b (suc n) code status loses) some
    (record {
      is_rounded = record {
        pick = r.pick;
        is_pick = picks_of_model c.precision mode b (suc n * 2 ^ (format_with c).scale) (2 ^ f.scale) r.pick r.is_pick;
        value_is = r.value_is;
        status_is = r.status_is;
      };
      loses_is = y.loses_is;
    })
