-- A result given outright has one value and one status, and so has a root that is rounded once.
use Rattle.std.proofs.Common.{◌≡◌, ℕ, false, sym, ap, ◌∙◌}
use Rattle.std.proofs.Math.Nat.{le_antisymm}
use Rattle.apfloat_model.specs.{declared.kinds.Round.Round, formats.Format.Format, formats.Datum.Datum}
use Rattle.apfloat_model.specs.rounding.{Rounding.delivered_value, Answer.IsAnswer}
use Rattle.apfloat_model.specs.rounding.DeliveredRoots.{IsBelowRoot, IsAboveRoot, root_between, IsRootPick, root_status}
use Rattle.apfloat_model.specs.rounding.DeliveredRoots.{IsDeliveredRoot}

-- the relation holds of at most one value and one status
abbrev pub Once : {A : Type 0} → (A → ℕ → Type 0) → Type 0
Once {A} R = (v w : A) (r s : ℕ) → R v r → R w s → (v ≡ w) × (r ≡ s)

-- a result given outright has one value and one status
pub answer_once : (datum : Datum) (t : ℕ) → Once (IsAnswer datum t)
answer_once d t v w r s x y = (x.value_is ∙ sym y.value_is, x.status_is ∙ sym y.status_is)

-- a root has one neighbour below and one above, so it is rounded to one value with one status
pub below_root_unique : (precision a b square parts : ℕ) → IsBelowRoot precision a square parts
    → IsBelowRoot precision b square parts → a ≡ b
below_root_unique precision a b square parts x y =
    le_antisymm (y.greatest a x.on_grid x.not_above) (x.greatest b y.on_grid y.not_above)

pub above_root_unique : (precision a b square parts : ℕ) → IsAboveRoot precision a square parts
    → IsAboveRoot precision b square parts → a ≡ b
above_root_unique precision a b square parts x y =
    le_antisymm (x.least b y.on_grid y.not_below) (y.least a x.on_grid x.not_below)

root_pick_unique : (precision : ℕ) (mode : Round) (square parts p q : ℕ)
    → IsRootPick precision mode square parts p → IsRootPick precision mode square parts q → p ≡ q
root_pick_unique precision mode square parts p q x y =
    x.is ∙ ap (λ (b : ℕ). root_between mode b x.above square parts)
    (below_root_unique precision x.below y.below square parts x.is_below y.is_below)
    ∙ ap (λ (a : ℕ). root_between mode y.below a square parts)
    (above_root_unique precision x.above y.above square parts x.is_above y.is_above) ∙ sym y.is

pub delivered_root_once : (format : Format) (mode : Round) (square parts : ℕ)
    → Once (IsDeliveredRoot format mode square parts)
delivered_root_once format mode square parts v w s t x y =
    let e : x.pick ≡ y.pick =
    root_pick_unique format.precision mode square parts x.pick y.pick x.is_pick y.is_pick in (
      x.value_is ∙ ap (λ (z : ℕ). delivered_value format mode false z) e ∙ sym y.value_is,
      x.status_is ∙ ap (λ (z : ℕ). root_status format mode square parts z) e ∙ sym y.status_is,
    )
