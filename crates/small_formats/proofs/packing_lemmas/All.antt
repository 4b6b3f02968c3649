-- What holds of all, one more at a time and a group at a time.
use Rattle.std.proofs.Common.{◌≡◌, zero, suc, sym, subst, arith, List, [], ◌∷◌, ◌++◌}
use Rattle.std.specs.Prelude.{All}

pub all_first : {X : Type 0} → (P : X → Type 0) (x : X) (xs : List X) → All P (x ∷ xs) → P x
all_first P x xs h = h 0 x (omega arith)

pub all_rest : {X : Type 0} → (P : X → Type 0) (x : X) (xs : List X) → All P (x ∷ xs) → All P xs
all_rest P x xs h = λ k d l. h (suc k) d (omega (arith, l))

pub all_none : {X : Type 0} → (P : X → Type 0) → All P []
all_none P k d l = absurd (omega (arith, l))

pub all_cons : {X : Type 0} → (P : X → Type 0) (x : X) (xs : List X) → P x → All P xs → All P (x ∷ xs)
all_cons P x xs p h zero d l = p
all_cons P x xs p h (suc k) d l = h k d (omega (arith, l))

pub all_append : {X : Type 0} → (P : X → Type 0) (xs ys : List X) → All P xs → All P ys → All P (xs ++ ys)
all_append P [] ys h g = g
all_append P (x ∷ xs) ys h g = all_cons P x (xs ++ ys) (all_first P x xs h) (all_append P xs ys (all_rest P x xs h) g)

-- one more of a list
pub all_more : {X : Type 0} → (P : X → Type 0) (xs more : List X) (x : X) → All P xs → P x → more ≡ xs ++ x ∷ []
    → All P more
all_more {X} P xs more x h p e =
    subst (λ (ys : List X). All P ys) (sym e) (all_append P xs (x ∷ []) h (all_cons P x [] p (all_none P)))
