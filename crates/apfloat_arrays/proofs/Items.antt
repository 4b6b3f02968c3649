-- Items of a list, one of which is set.
use Rattle.std.proofs.Common.{◌≡◌, ℕ, ◌<◌, List, length, ⊎_elim, subst, sym, set}
use Rattle.std.proofs.lemmas.{Bool.cases_eq, List.get_or-set_same, List.get_or-set_other}
use Rattle.std.specs.Prelude.{slice_index}

-- what is said of each item, if it is said of the new one and of each other one
pub set_says : (Says : ℕ → ℕ → Type 0) (items : List ℕ) (index value : ℕ) → index < length items → Says index value
    → (k : ℕ) → ((k ≡ index → ⊥) → Says k (slice_index items k)) → Says k (slice_index (set items index value) k)
set_says Says items index value within here k kept =
    ⊎_elim {C = Says k (slice_index (set items index value) k)}
    (λ (same : k ≡ index). subst (λ (n : ℕ). Says n (slice_index (set items index value) n)) (sym same)
    (subst (Says index) (sym (get_or-set_same items index value 0 within)) here))
    (λ (other : k ≡ index → ⊥).
    subst (Says k) (sym (get_or-set_other items index k value 0 other)) (kept other))
    (cases_eq k index)
