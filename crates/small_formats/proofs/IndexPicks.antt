-- A pick by indices has one answer where the points increase.
use Rattle.std.proofs.Common.{◌≡◌, ℕ, ◌+◌, ◌*◌, ◌<◌, ◌≤◌, Bool, sym, ap, ◌∙◌, ⊎_elim}
use Rattle.std.proofs.{Common.arith, Math.Nat.mul-le-mul_right, lemmas.Bool.cases_lt}
use Rattle.small_formats.specs.IndexPicks.{IsIndexPick, index_between}

-- a magnitude is between two points in one way
not_below : (points : ℕ → ℕ) (amount parts low other : ℕ) → ((i j : ℕ) → i < j → points i < points j)
    → amount < points (low + 1) * parts → points other * parts ≤ amount → low < other → ⊥
not_below points amount parts low other increases to from less =
    ⊎_elim
    (λ (l : low + 1 < other).
    let more = increases (low + 1) other l in
    let times : points (low + 1) * parts ≤ points other * parts = mul-le-mul_right parts (omega (arith, more)) in
    omega (arith, times, to, from))
    (λ (l : other ≤ low + 1).
    let next : other ≡ low + 1 = omega (arith, l, less) in
    let same : points other * parts ≡ points (low + 1) * parts = ap (λ (n : ℕ). points n * parts) next in
    omega (arith, same, to, from))
    (cases_lt (low + 1) other)

pub index_pick_once : (takes : ℕ → ℕ → Bool → Bool) (points : ℕ → ℕ) (amount parts index other : ℕ)
    → ((i j : ℕ) → i < j → points i < points j) → IsIndexPick takes points amount parts index
    → IsIndexPick takes points amount parts other → index ≡ other
index_pick_once takes points amount parts index other increases x y =
    let one_low : x.low ≡ y.low =
    ⊎_elim
    (λ (l : x.low < y.low). absurd (not_below points amount parts x.low y.low increases x.to y.from l))
    (λ (l : y.low ≤ x.low).
    ⊎_elim
    (λ (k : y.low < x.low). absurd (not_below points amount parts y.low x.low increases y.to x.from k))
    (λ (k : x.low ≤ y.low). omega (arith, l, k))
    (cases_lt y.low x.low))
    (cases_lt x.low y.low) in
    x.is ∙ ap (λ (n : ℕ). index_between takes points amount parts n) one_low ∙ sym y.is
