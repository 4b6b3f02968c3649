-- Conversions into scales have one answer.
use Rattle.std.proofs.Common.{◌≡◌, ℕ, zero, suc, ◌*◌, ◌^◌, ◌<◌, ◌≤◌, Bool, true, false, not, eqb, sym, ap, ◌∙◌, inl}
use Rattle.std.proofs.{Common.inr, Common.arith, Math.Nat.mul-le-mul_right, Math.Pow.pow-lt}
use Rattle.std.proofs.lemmas.{Bool.ne_eqb, Bool.MatchBool-at_false, Nat.pow_pos}
use Rattle.apfloat_model.specs.declared.kinds.Round.{Round}
use Rattle.apfloat_model.specs.formats.{Datum.Datum, Datum.finite, Datum.infinite, Datum.nan, Format.Format}
use Rattle.apfloat_model.specs.rounding.Rounding.{ok_bits, takes_above}
use Rattle.small_formats.specs.{Laws.IsScaleOnce, Modes.ieee_mode, Modes.takes_next, ScaleModes.IsScaleByOnce}
use Rattle.small_formats.specs.Scales.{IsPickedScale, IsScaleIn, IsScaleOf, delivered_code, scale_format, scale_status}
use Rattle.small_formats.proofs.{IndexPicks.index_pick_once, OneAnswer.AreSame, OneAnswer.scale_code_once}

pub some_quanta : (n : ℕ) → eqb (suc n) 0 ≡ false
some_quanta n = ne_eqb (suc n) 0 (λ e. omega (arith, e))

-- ---- one answer

least_or_not : (amount parts low : ℕ) → amount < parts → 2 ^ low * parts ≤ amount → ⊥
least_or_not amount parts low l from =
    let one : 1 ≤ 2 ^ low = pow_pos low in
    let least : 1 * parts ≤ 2 ^ low * parts = mul-le-mul_right parts one in
    omega (arith, l, from, least)

picked_once : (takes : ℕ → ℕ → Bool → Bool) (amount parts code other : ℕ) → IsPickedScale takes amount parts code
    → IsPickedScale takes amount parts other → code ≡ other
picked_once takes amount parts code other (inl x) (inl y) = x.1 ∙ sym y.1
picked_once takes amount parts code other (inl x) (inr y) = absurd (least_or_not amount parts y.low x.0 y.from)
picked_once takes amount parts code other (inr x) (inl y) = absurd (least_or_not amount parts x.low y.0 x.from)
picked_once takes amount parts code other (inr x) (inr y) =
    index_pick_once takes (λ low. 2 ^ low) amount parts code other (λ i j less. pow-lt less) x y

number_once : (f : Format) (mode : Round) (takes : ℕ → ℕ → Bool → Bool) (n code other status flags : ℕ)
    (loses lost : Bool) → IsScaleOf f mode takes n code status loses → IsScaleOf f mode takes n other flags lost
    → AreSame code status loses other flags lost
number_once f mode takes n code other status flags loses lost x y =
    let amount : ℕ = n * 2 ^ scale_format.scale in
    let parts : ℕ = 2 ^ f.scale in
    let v = x.is_rounded in
    let w = y.is_rounded in
    let same : v.picked ≡ w.picked = picked_once takes amount parts v.picked w.picked v.is_picked w.is_picked in
    let told : status ≡ flags =
    v.status_is ∙ ap (λ (p : ℕ). scale_status mode amount parts p) same ∙ sym w.status_is in (
      v.code_is ∙ ap (λ (p : ℕ). delivered_code mode p) same ∙ sym w.code_is,
      told,
      x.loses_is ∙ ap (λ (s : ℕ). not (eqb s ok_bits)) told ∙ sym y.loses_is,
    )

scale_in_once : (f : Format) (mode : Round) (takes : ℕ → ℕ → Bool → Bool) (x : Datum)
    (code other status flags : ℕ) (loses lost : Bool) → IsScaleIn f mode takes x code status loses
    → IsScaleIn f mode takes x other flags lost → AreSame code status loses other flags lost
scale_in_once f mode takes (nan b s) code other status flags loses lost x y =
    scale_code_once _ _ _ code other status flags loses lost x y
scale_in_once f mode takes (infinite b) code other status flags loses lost x y =
    scale_code_once _ _ _ code other status flags loses lost x y
scale_in_once f mode takes (finite b zero) code other status flags loses lost x y =
    scale_code_once _ _ _ code other status flags loses lost x y
scale_in_once f mode takes (finite true (suc n)) code other status flags loses lost x y =
    scale_code_once _ _ _ code other status flags loses lost (MatchBool-at_false _ _ (some_quanta n) x)
    (MatchBool-at_false _ _ (some_quanta n) y)
scale_in_once f mode takes (finite false (suc n)) code other status flags loses lost x y =
    number_once f mode takes (suc n) code other status flags loses lost
    (MatchBool-at_false _ (IsScaleOf f mode takes (suc n) code status loses) (some_quanta n) x)
    (MatchBool-at_false _ (IsScaleOf f mode takes (suc n) other flags lost) (some_quanta n) y)

pub scale_once : IsScaleOnce
scale_once f mode = scale_in_once f mode (takes_above mode false)

pub scale_by_once : IsScaleByOnce
scale_by_once f mode = scale_in_once f (ieee_mode mode) (takes_next mode false)
