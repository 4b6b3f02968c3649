-- The test `is_one_edit` decides whether two words are one edit apart.
use Rattle.std.proofs.Common.{◌≡◌, ◌≢◌, ◌↔◌, ℕ, ◌==◌, Bool, true, false, ◌&&◌, ◌||◌, refl, ⊎_elim, arith, List, [], ◌∷◌}
use Rattle.std.proofs.{Common.length, lemmas.Bool.and_parts, lemmas.Bool.and_from, lemmas.Bool.or_cases}
use Rattle.std.proofs.lemmas.Bool.{or_left, or_right, cases_Bool, eqb-true, eqb-false, eq-eqb, ne_eqb, false≢true}
use Rattle.rustc_apfloat.specs.Digits.{same}
use Rattle.commands.specs.Suggestions.{IsOneEdit, put_in, taken_out, replaced, swapped, later, is_one_edit, is_swap}

-- ---- equal words

same_self : (xs : List ℕ) → same xs xs ≡ true
same_self [] = refl
same_self (x ∷ xs) = and_from (x == x) (same xs xs) (eq-eqb x x refl) (same_self xs)

same_is : (xs ys : List ℕ) → same xs ys ≡ true → xs ≡ ys
same_is [] [] e = refl
same_is [] (y ∷ ys) e = absurd (false≢true e)
same_is (x ∷ xs) [] e = absurd (false≢true e)
same_is (x ∷ xs) (y ∷ ys) e =
    let parts = and_parts (x == y) (same xs ys) e in
    rw (eqb-true x y parts.0, same_is xs ys parts.1) refl

-- ---- one of four tests

first : (a b c d : Bool) → a ≡ true → (a || b || c || d) ≡ true
first a b c d e = or_left (a || b || c) d (or_left (a || b) c (or_left a b e))

second : (a b c d : Bool) → b ≡ true → (a || b || c || d) ≡ true
second a b c d e = or_left (a || b || c) d (or_left (a || b) c (or_right a b e))

third : (a b c d : Bool) → c ≡ true → (a || b || c || d) ≡ true
third a b c d e = or_left (a || b || c) d (or_right (a || b) c e)

-- ---- words that are one edit apart pass the test

putting_in : (y : ℕ) (rest : List ℕ) → is_one_edit rest (y ∷ rest) ≡ true
putting_in y [] = refl
putting_in y (z ∷ zs) =
    ⊎_elim (λ (e : (z == y) ≡ true). rw e (putting_in z zs))
    (λ (e : (z == y) ≡ false). rw e
    (third (same zs (z ∷ zs)) (same zs (y ∷ z ∷ zs)) (same (z ∷ zs) (z ∷ zs)) (is_swap z zs y (z ∷ zs))
    (same_self (z ∷ zs)))) (cases_Bool (z == y))

taking_out : (x : ℕ) (rest : List ℕ) → is_one_edit (x ∷ rest) rest ≡ true
taking_out x [] = refl
taking_out x (z ∷ zs) =
    ⊎_elim (λ (e : (x == z) ≡ true). rw e (taking_out z zs))
    (λ (e : (x == z) ≡ false). rw e
    (second (same (z ∷ zs) zs) (same (z ∷ zs) (z ∷ zs)) (same (x ∷ z ∷ zs) zs) (is_swap x (z ∷ zs) z zs)
    (same_self (z ∷ zs)))) (cases_Bool (x == z))

passes : {word other : List ℕ} → IsOneEdit word other → is_one_edit word other ≡ true
passes (put_in y rest) = putting_in y rest
passes (taken_out x rest) = taking_out x rest
passes (replaced x y rest h) =
    rw (ne_eqb x y h)
    (first (same rest rest) (same rest (y ∷ rest)) (same (x ∷ rest) rest) (is_swap x rest y rest) (same_self rest))
passes (swapped x y rest h) =
    rw (ne_eqb x y h)
    (or_right (same (y ∷ rest) (x ∷ rest) || same (y ∷ rest) (y ∷ x ∷ rest) || same (x ∷ y ∷ rest) (x ∷ rest))
    (is_swap x (y ∷ rest) y (x ∷ rest))
    (and_from (y == y && x == x) (same rest rest)
    (and_from (y == y) (x == x) (eq-eqb y y refl) (eq-eqb x x refl)) (same_self rest)))
passes (later x h) = rw (eq-eqb x x refl) (passes h)

-- ---- words that pass the test are one edit apart

single : (other : List ℕ) → (length other == 1) ≡ true → IsOneEdit [] other
single [] e = absurd (omega (arith, eqb-true 0 1 e))
single (y ∷ []) e = put_in y []
single (y ∷ z ∷ ys) e = absurd (omega (arith, eqb-true (length (y ∷ z ∷ ys)) 1 e))

single_left : (x : ℕ) (xs : List ℕ) → (length xs == 0) ≡ true → IsOneEdit (x ∷ xs) []
single_left x [] e = taken_out x []
single_left x (z ∷ xs) e = absurd (omega (arith, eqb-true (length (z ∷ xs)) 0 e))

swapping : (x y : ℕ) (xs ys : List ℕ) → x ≢ y → is_swap x xs y ys ≡ true → IsOneEdit (x ∷ xs) (y ∷ ys)
swapping x y [] ys h e = absurd (false≢true e)
swapping x y (p ∷ rest) [] h e = absurd (false≢true e)
swapping x y (p ∷ rest) (q ∷ others) h e =
    let all = and_parts (p == y && q == x) (same rest others) e in
    let both = and_parts (p == y) (q == x) all.0 in
    rw (eqb-true p y both.0, eqb-true q x both.1, same_is rest others all.1) (swapped x y others h)

differing : (x y : ℕ) (xs ys : List ℕ) → x ≢ y
    → (same xs ys || same xs (y ∷ ys) || same (x ∷ xs) ys || is_swap x xs y ys) ≡ true → IsOneEdit (x ∷ xs) (y ∷ ys)
differing x y xs ys h e =
    let a = same xs ys in let b = same xs (y ∷ ys) in let c = same (x ∷ xs) ys in let d = is_swap x xs y ys in
    ⊎_elim (λ (f : (a || b || c) ≡ true).
    ⊎_elim (λ (g : (a || b) ≡ true).
    ⊎_elim (λ (k : same xs ys ≡ true). rw (same_is xs ys k) (replaced x y ys h))
    (λ (k : same xs (y ∷ ys) ≡ true). rw (same_is xs (y ∷ ys) k) (taken_out x (y ∷ ys)))
    (or_cases a b g))
    (λ (k : same (x ∷ xs) ys ≡ true). rw (← same_is (x ∷ xs) ys k) (put_in y (x ∷ xs)))
    (or_cases (a || b) c f))
    (λ (k : is_swap x xs y ys ≡ true). swapping x y xs ys h k)
    (or_cases (a || b || c) d e)

is_apart : (word other : List ℕ) → is_one_edit word other ≡ true → IsOneEdit word other
is_apart [] other e = single other e
is_apart (x ∷ xs) [] e = single_left x xs e
is_apart (x ∷ xs) (y ∷ ys) e =
    ⊎_elim (λ (a : (x == y) ≡ true).
    let f : is_one_edit xs ys ≡ true = rw a at e in
    rw (eqb-true x y a) (later y (is_apart xs ys f)))
    (λ (a : (x == y) ≡ false).
    let f : (same xs ys || same xs (y ∷ ys) || same (x ∷ xs) ys || is_swap x xs y ys) ≡ true = rw a at e in
    differing x y xs ys (eqb-false x y a) f)
    (cases_Bool (x == y))

-- the test decides the relation
pub is_one_edit-iff : (word other : List ℕ) → (is_one_edit word other ≡ true) ↔ IsOneEdit word other
is_one_edit-iff word other = (is_apart word other, passes)
