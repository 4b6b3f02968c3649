use Rattle.std.proofs.{Math.Nat.le_trans, lemmas.Bool.le-ltb}
use Rattle.std.proofs.Common.{◌≡◌, ℕ, ◌⊎◌, ◌-◌, ◌*◌, ◌%◌, ◌^◌, ◌≤◌, eqb, ◌∙◌, ap, sym, subst, refl, inl, inr, ⊎_elim}
use Rattle.apfloat_model.specs.rounding.{Enclosure.rounds_up, Flags.bits_of, Rounding.is_tiny}
use Rattle.apfloat_model.specs.formats.Format.{largest}
use Rattle.apfloat_model.proofs.rounding.Deliveries.{delivered_past}
use Rattle.apfloat_rounding.specs.{Cuts.loss_at, Shapes.format_at, Stored.datum_at}
use Rattle.apfloat_rounding.proofs.CutRests.{picked_if_moved, delivered_within}
use Rattle.apfloat_rounding.proofs.rounding.round.Goals.{After-pick_with_status-picked}
use Rattle.apfloat_rounding.proofs.rounding.round.Goals as goal

-- the picked significand has all digits above the lowest place
picked_full : (c : After-pick_with_status-picked)
    → (c.args.cut.place ≡ 0) ⊎ (2 ^ (c.args.shape.precision - 1) ≤ c.pick_with_status-picked.result.significand)
picked_full c = ⊎_elim (λ z. inl z) (λ f. inr (le_trans f c.pick_with_status-picked.ensures.above)) c.requires.full

pub returns-then-stays_within-clause-delivered : goal.returns-then-stays_within-clause-delivered
returns-then-stays_within-clause-delivered c = λ amount parts u h g.
    let f = format_at c.args.shape in
    let m = c.args.cut.significand in
    let place = c.args.cut.place in
    let rest = c.args.cut.rest in
    let half = c.args.cut.half in
    let p = c.pick_with_status-picked.result.significand * 2 ^ place in
    let s = ap bits_of c.and.ensures.status in
    let k = picked_full (goal.at.returns-then-stays_within-clause-delivered c).After-pick_with_status-picked in
    delivered_within f c.args.mode c.args.negative m place amount parts p rest half
    (rounds_up c.args.mode c.args.negative (loss_at rest half) (eqb (m % 2) 1))
    c.pick_with_status-picked.result.tiny _ _ u refl
    (ap (λ (x : ℕ). x * 2 ^ place) c.pick_with_status-picked.ensures.value)
    (le-ltb (largest f) p (c.stays_within.ensures.within c.if-stays_within.true)) h.0 h.1
    (c.pick_with_status-picked.ensures.tiny amount parts u h g k)
    (ap (datum_at c.args.shape) c.and.ensures.value ∙ c.value_of.ensures.datum)
    (λ z. s ∙ c.pick_with_status-picked.ensures.exact z) (λ n. s ∙ c.pick_with_status-picked.ensures.inexact n)

pub returns-then-is_past-clause-delivered : goal.returns-then-is_past-clause-delivered
returns-then-is_past-clause-delivered c = λ amount parts u h g.
    let f = format_at c.args.shape in
    let m = c.args.cut.significand in
    let p = c.carried-point.result.significand * 2 ^ c.carried-point.result.place in
    let loss = loss_at c.args.cut.rest c.args.cut.half in
    let is = picked_if_moved c.args.shape.precision c.args.mode c.args.negative m c.args.cut.place amount parts p loss
    (rounds_up c.args.mode c.args.negative loss (eqb (m % 2) 1)) refl
    (c.carried-point.ensures.value ∙ ap (λ (x : ℕ). x * 2 ^ c.args.cut.place) c.pick_with_status-picked.ensures.value)
    u h.0 h.1 in
    delivered_past f c.args.mode c.args.negative amount parts p _ _ is (sym c.is_past.ensures ∙ c.if-is_past.true)
    c.overflowed.ensures.answer.value_is c.overflowed.ensures.answer.status_is

pub returns-clause-delivered : goal.returns-clause-delivered
returns-clause-delivered c = λ amount parts u h g.
    let f = format_at c.args.shape in
    let m = c.args.cut.significand in
    let place = c.args.cut.place in
    let rest = c.args.cut.rest in
    let half = c.args.cut.half in
    let p = c.carried-point.result.significand * 2 ^ c.carried-point.result.place in
    let a = sym c.is_past.ensures ∙ c.if-is_past.false in
    let s = ap bits_of c.and-2.ensures.status in
    let k = picked_full (goal.at.returns-clause-delivered c).After-pick_with_status-picked in
    let v = c.carried-point.ensures.value in
    let t = c.pick_with_status-picked.ensures.tiny amount parts u h g k in
    delivered_within f c.args.mode c.args.negative m place amount parts p rest half
    (rounds_up c.args.mode c.args.negative (loss_at rest half) (eqb (m % 2) 1))
    c.pick_with_status-picked.result.tiny _ _ u refl
    (v ∙ ap (λ (x : ℕ). x * 2 ^ place) c.pick_with_status-picked.ensures.value) a h.0 h.1
    (subst (λ (x : ℕ). is_tiny f c.args.mode c.args.negative amount parts x ≡ c.pick_with_status-picked.result.tiny)
    (sym v) t) (ap (datum_at c.args.shape) c.and-2.ensures.value ∙ c.from_full_quanta.ensures.datum)
    (λ z. s ∙ c.pick_with_status-picked.ensures.exact z) (λ n. s ∙ c.pick_with_status-picked.ensures.inexact n)
