-- What holds in each place of a block, and its greatest magnitude.
use Rattle.std.proofs.Common.{◌≡◌, ℕ, zero, suc, ◌*◌, ◌<◌, ◌≤◌, max, true, refl, sym, ap}
use Rattle.std.proofs.Common.{◌∙◌, subst, ⊎_elim, arith, List, [], ◌∷◌, length, Some}
use Rattle.std.proofs.Math.Nat.{mul-le-mul_right, le_of_mul-le-mul_right}
use Rattle.std.proofs.lemmas.Bool.{and_from, cases_lt}
use Rattle.std.proofs.lemmas.Option.{get_or_from_slice_get, slice_get-map, slice_get_within}
use Rattle.std.specs.Prelude.{All, map, option_map, slice_get}
use Rattle.apfloat_model.specs.{formats.Datum.Datum, order.Classes.is_finite, order.Classes.quanta_of}
use Rattle.small_formats.specs.blocks.{Again.greatest_element, Elements.element_datum}
use Rattle.small_formats.specs.blocks.Magnitudes.{are_finite, greatest_magnitude}
use Rattle.small_formats.specs.{blocks.Places.AreElementsInPlaces, declared.blocks.elements.ElementFormat.ElementFormat}
use Rattle.small_formats.proofs.blocks_lemmas.{Greatest.at_most_greatest, PlacesOnce.rest_in_places}

-- ---- places

pub some_at : {X : Type 0} → (xs : List X) (i : ℕ) → i < length xs → (x : X) × (slice_get xs i ≡ Some x)
some_at [] i l = absurd (omega (arith, l))
some_at (x ∷ xs) zero l = (x, refl)
some_at (x ∷ xs) (suc i) l = some_at xs i (omega (arith, l))

-- what holds of all holds in a place
pub all_at : {X : Type 0} → (P : X → Type 0) (xs : List X) (i : ℕ) (x : X) → All P xs → slice_get xs i ≡ Some x → P x
all_at P xs i x all e = subst P (get_or_from_slice_get xs i x x e) (all i x (slice_get_within xs i x e))

-- what is written in a place, and its flags
pub record IsThere {A B : Type 0} (Holds : A → B → ℕ → Type 0) (written : List B) (place : ℕ)
    (x : A) : Type 0 where
  pub value : B
  pub status : ℕ
  pub at : slice_get written place ≡ Some value
  pub holds : Holds x value status

pub there : {A B : Type 0}
    → (Holds : A → B → ℕ → Type 0) (read : List A) (written : List B) (flags : List ℕ) (place : ℕ) (x : A)
    → AreElementsInPlaces Holds read written flags → slice_get read place ≡ Some x → IsThere Holds written place x
there Holds read written flags place x all at =
    let within = slice_get_within read place x at in
    let y = some_at written place (omega (arith, within, all.same_size)) in
    let s = some_at flags place (omega (arith, within, all.flags_size)) in
    record { value = y.0; status = s.0; at = y.1; holds = all.each place x y.0 s.0 at y.1 s.1 }

-- lists with the same items are the same
pub same_lists : (xs ys : List ℕ) → length xs ≡ length ys
    → ((i x y : ℕ) → slice_get xs i ≡ Some x → slice_get ys i ≡ Some y → x ≡ y) → xs ≡ ys
same_lists [] [] e h = refl
same_lists [] (y ∷ ys) e h = absurd (omega (arith, e))
same_lists (x ∷ xs) [] e h = absurd (omega (arith, e))
same_lists (x ∷ xs) (y ∷ ys) e h =
    ap (λ (k : ℕ). k ∷ xs) (h 0 x y refl refl)
    ∙ ap (λ (ks : List ℕ). y ∷ ks) (same_lists xs ys (omega (arith, e)) (λ i. h (suc i)))

-- ---- the greatest magnitude

max_scaled : (p q r s a b : ℕ) → 0 < b → p * a ≡ r * b → q * a ≡ s * b → max p q * a ≡ max r s * b
max_scaled p q r s a b some e f =
    ⊎_elim
    (λ (l : p < q).
    let k : p ≤ q = omega (arith, l) in
    let more : p * a ≤ q * a = mul-le-mul_right a k in
    let low : r ≤ s = le_of_mul-le-mul_right (let z : r * b ≤ s * b = omega (arith, more, e, f) in z) some in
    let left : max p q ≡ q = grind (arith, k) in
    let right : max r s ≡ s = grind (arith, low) in
    ap (λ (n : ℕ). n * a) left ∙ f ∙ ap (λ (n : ℕ). n * b) (sym right))
    (λ (l : q ≤ p).
    let more : q * a ≤ p * a = mul-le-mul_right a l in
    let low : s ≤ r = le_of_mul-le-mul_right (let z : s * b ≤ r * b = omega (arith, more, e, f) in z) some in
    let left : max p q ≡ p = grind (arith, l) in
    let right : max r s ≡ r = grind (arith, low) in
    ap (λ (n : ℕ). n * a) left ∙ e ∙ ap (λ (n : ℕ). n * b) (sym right))
    (cases_lt p q)

-- if all values are their elements times one factor, the greatest of them is too
pub scaled_greatest : (element : ElementFormat) (a b : ℕ) (codes : List ℕ) (values : List Datum) (flags : List ℕ)
    → 0 < b → AreElementsInPlaces
    (λ code value status. quanta_of value * a ≡ quanta_of (element_datum element code) * b) codes values flags
    → greatest_magnitude values * a ≡ greatest_element element codes * b
scaled_greatest element a b [] [] flags some all = omega arith
scaled_greatest element a b [] (y ∷ ys) flags some all = let s = all.same_size in absurd (omega (arith, s))
scaled_greatest element a b (x ∷ xs) [] flags some all = let s = all.same_size in absurd (omega (arith, s))
scaled_greatest element a b (x ∷ xs) (y ∷ ys) [] some all = let n = all.flags_size in absurd (omega (arith, n))
scaled_greatest element a b (x ∷ xs) (y ∷ ys) (s ∷ ss) some all =
    max_scaled (quanta_of y) (greatest_magnitude ys) (quanta_of (element_datum element x)) (greatest_element element xs)
    a b some (all.each 0 x y s refl refl refl)
    (scaled_greatest element a b xs ys ss some
    (rest_in_places (λ code value status. quanta_of value * a ≡ quanta_of (element_datum element code) * b) x xs y ys s
    ss all))

-- all are finite
pub finite_places : (codes : List ℕ) (values : List Datum) (flags : List ℕ)
    → AreElementsInPlaces (λ code value status. is_finite value ≡ true) codes values flags → are_finite values ≡ true
finite_places [] [] flags all = refl
finite_places [] (y ∷ ys) flags all = let s = all.same_size in absurd (omega (arith, s))
finite_places (x ∷ xs) [] flags all = let s = all.same_size in absurd (omega (arith, s))
finite_places (x ∷ xs) (y ∷ ys) [] all = let n = all.flags_size in absurd (omega (arith, n))
finite_places (x ∷ xs) (y ∷ ys) (s ∷ ss) all =
    and_from (is_finite y) (are_finite ys) (all.each 0 x y s refl refl refl)
    (finite_places xs ys ss (rest_in_places (λ code value status. is_finite value ≡ true) x xs y ys s ss all))

-- what holds of 0 and of each magnitude holds of the greatest
pub greatest_has : (element : ElementFormat) (P : ℕ → Type 0) (codes : List ℕ) → P 0
    → All (λ code. P (quanta_of (element_datum element code))) codes → P (greatest_element element codes)
greatest_has element P [] none all = none
greatest_has element P (x ∷ xs) none all =
    let first : P (quanta_of (element_datum element x)) = all 0 x (omega arith) in
    let rest = greatest_has element P xs none (λ k d l. all (suc k) d (omega (arith, l))) in
    let m = quanta_of (element_datum element x) in
    let n = greatest_element element xs in
    ⊎_elim (λ (l : m < n). subst P (let e : n ≡ max m n = grind (arith, l) in e) rest)
    (λ (l : n ≤ m). subst P (let e : m ≡ max m n = grind (arith, l) in e) first) (cases_lt m n)

-- no element is greater
pub at_most_element : (element : ElementFormat) (codes : List ℕ) (i code : ℕ) → slice_get codes i ≡ Some code
    → quanta_of (element_datum element code) ≤ greatest_element element codes
at_most_element element codes i code e =
    at_most_greatest (map (λ c. element_datum element c) codes) i (element_datum element code)
    (slice_get-map (λ c. element_datum element c) codes i ∙ ap (option_map (λ c. element_datum element c)) e)
