-- The greatest magnitude of a block.
use Rattle.std.proofs.Common.{if◌then◌else◌, ◌≡◌, ℕ, zero, suc, ◌+◌, ◌<◌, ◌≤◌, max, true, eqb, refl, sym, ap, ◌∙◌}
use Rattle.std.proofs.Common.{⊎_elim, arith, subst, Bool, ◌&&◌, false, ltb, List, [], ◌∷◌, ◌++◌, take, Some}
use Rattle.std.proofs.lemmas.Bool.{and_from, and_parts, cases_lt, ne_eqb, lt-ltb, le-ltb}
use Rattle.std.proofs.lemmas.Nat.{pow_pos}
use Rattle.std.specs.Prelude.{slice_get}
use Rattle.apfloat_model.specs.formats.{Format.Format, Members.IsMember}
use Rattle.apfloat_model.specs.formats.Datum.{Datum, finite, infinite, nan}
use Rattle.apfloat_model.specs.declared.kinds.{NonfiniteBehavior.NonfiniteBehavior, Category.TheVariants.Normal}
use Rattle.apfloat_model.specs.order.{Predicates.is_zero_category, Order.is_below, Positive.IsPositive}
use Rattle.apfloat_model.specs.order.Classes.{category_of, is_finite, is_negative, is_zero, quanta_of}
use Rattle.apfloat_model.specs.rounding.Negation.{negated}
use Rattle.apfloat_model.proofs.{order.PredicatesAgree.zero_agrees, general.Choices.not_zero}
use Rattle.apfloat_model.proofs.{general.Choices.above_zero, arithmetic.Signs.plus_zero}
use Rattle.small_formats.specs.blocks.Magnitudes.{are_finite, greatest_magnitude}
use Rattle.small_formats.proofs.blocks_lemmas.Places.{some_same}

-- the greater of two numbers, by cases
pub max_right : (a b : ℕ) → a ≤ b → max a b ≡ b
max_right a b l = grind arith

pub max_left : (a b : ℕ) → b ≤ a → max a b ≡ a
max_left a b l = grind arith

pub max_together : (a b c : ℕ) → max a (max b c) ≡ max b (max a c)
max_together a b c = grind arith

-- one more value
pub greatest_more : (xs : List Datum) (x : Datum)
    → greatest_magnitude (xs ++ x ∷ []) ≡ max (quanta_of x) (greatest_magnitude xs)
greatest_more [] x = refl
greatest_more (y ∷ xs) x =
    ap (λ n. max (quanta_of y) n) (greatest_more xs x)
    ∙ max_together (quanta_of y) (quanta_of x) (greatest_magnitude xs)

pub take_more : {X : Type 0} → (xs : List X) (i : ℕ) (x : X) → slice_get xs i ≡ Some x
    → take (i + 1) xs ≡ take i xs ++ x ∷ []
take_more [] i x e = cc
take_more (y ∷ xs) zero x e = ap (λ z. z ∷ []) (some_same y x e)
take_more {X} (y ∷ xs) (suc i) x e =
    let next : suc i + 1 ≡ suc (i + 1) = omega arith in
    ap (λ (n : ℕ). take n (y ∷ xs)) next ∙ ap (λ (zs : List X). y ∷ zs) (take_more xs i x e)

pub finite_at : (xs : List Datum) (i : ℕ) (x : Datum) → are_finite xs ≡ true → slice_get xs i ≡ Some x
    → is_finite x ≡ true
finite_at [] i x h e = cc
finite_at (y ∷ xs) zero x h e = sym (ap is_finite (some_same y x e)) ∙ (and_parts (is_finite y) (are_finite xs) h).0
finite_at (y ∷ xs) (suc i) x h e = finite_at xs i x (and_parts (is_finite y) (are_finite xs) h).1 e

-- one more that is finite, and one that is not
pub finite_more : (xs : List Datum) (i : ℕ) (x : Datum) → are_finite (take i xs) ≡ true
    → slice_get xs i ≡ Some x → is_finite x ≡ true → are_finite (take (i + 1) xs) ≡ true
finite_more [] i x h e f = cc
finite_more (y ∷ xs) zero x h e f = rw (ap is_finite (some_same y x e) ∙ f) refl
finite_more (y ∷ xs) (suc i) x h e f =
    let p = and_parts (is_finite y) (are_finite (take i xs)) h in
    let next : suc i + 1 ≡ suc (i + 1) = omega arith in
    ap (λ (n : ℕ). are_finite (take n (y ∷ xs))) next
    ∙ and_from (is_finite y) (are_finite (take (i + 1) xs)) p.0 (finite_more xs i x p.1 e f)

pub one_not_finite : (xs : List Datum) (i : ℕ) (x : Datum) → slice_get xs i ≡ Some x → is_finite x ≡ false
    → are_finite xs ≡ false
one_not_finite [] i x e f = cc
one_not_finite (y ∷ xs) zero x e f = rw (ap is_finite (some_same y x e) ∙ f) refl
one_not_finite (y ∷ xs) (suc i) x e f = no_more (is_finite y) (one_not_finite xs i x e f)
  where
    no_more : (first : Bool) → are_finite xs ≡ false → (first && are_finite xs) ≡ false
    no_more true h = h
    no_more false h = refl

-- no value is greater
pub at_most_greatest : (xs : List Datum) (i : ℕ) (x : Datum) → slice_get xs i ≡ Some x
    → quanta_of x ≤ greatest_magnitude xs
at_most_greatest [] i x e = cc
at_most_greatest (y ∷ xs) zero x e =
    let same : quanta_of y ≡ quanta_of x = ap quanta_of (some_same y x e) in
    grind (arith, same)
at_most_greatest (y ∷ xs) (suc i) x e = grind (arith, at_most_greatest xs i x e)

-- the absolute value of a nonzero finite datum
pub finite_magnitude : (kind : NonfiniteBehavior) (x magnitude : Datum) → is_finite x ≡ true → 0 < quanta_of x
    → magnitude ≡ (if is_negative x then negated kind x else x) → magnitude ≡ finite false (quanta_of x)
finite_magnitude kind (finite false n) magnitude h some e = e
finite_magnitude kind (finite true n) magnitude h some e = e ∙ rw (not_zero n some) refl
finite_magnitude kind (infinite b) magnitude h some e = cc
finite_magnitude kind (nan b s) magnitude h some e = cc

-- the order of two values that are not below zero is that of their quanta
pub below_is : (m n : ℕ) → is_below (finite false m) (finite false n) ≡ ltb m n
below_is m n =
    ⊎_elim
    (λ (l : m < n). rw (lt-ltb m n l) refl)
    (λ (l : n ≤ m).
    ⊎_elim
    (λ (k : n < m). rw (le-ltb m n l, lt-ltb n m k) refl)
    (λ (k : m ≤ n). rw (le-ltb m n l, le-ltb n m k) refl)
    (cases_lt n m))
    (cases_lt m n)

-- the same of any two values
pub below_quanta : (x y : Datum) (m n : ℕ) (test : Bool) → x ≡ finite false m → y ≡ finite false n
    → test ≡ is_below x y → test ≡ ltb m n
below_quanta x y m n test e f h =
    h ∙ ap (λ (z : Datum). is_below z y) e ∙ ap (λ (z : Datum). is_below (finite false m) z) f ∙ below_is m n

-- a finite value that is not normal is a zero, which is not greater
pub no_quanta : (x : Datum) → is_finite x ≡ true → (category_of x ≡ Normal → ⊥) → (n : ℕ) → max (quanta_of x) n ≡ n
no_quanta (finite b zero) h none n = max_right 0 n (omega arith)
no_quanta (finite b (suc m)) h none n =
    let off : eqb (suc m) 0 ≡ false = ne_eqb (suc m) 0 (λ e. omega (arith, e)) in
    absurd (none (rw off refl))
no_quanta (infinite b) h none n = cc
no_quanta (nan b s) h none n = cc

-- the test of a value that is not below zero
pub zero_test : (x : Datum) → x ≡ finite false (quanta_of x) → is_zero_category (category_of x) ≡ eqb (quanta_of x) 0
zero_test x e = zero_agrees x ∙ ap is_zero e

-- the number 0 is a member of each format
pub zero_member : (f : Format) → 0 < f.precision → IsMember f (finite false 0)
zero_member f some =
    record {
      on_grid = record { significand = 0; place = 0; fits = pow_pos f.precision; is = refl };
      within = omega arith;
      zero_has = λ z. sym (plus_zero f.nonfinite);
    }

-- a value that is neither below zero nor a zero
pub positive_of : (f : Format) (x : Datum) → x ≡ finite false (quanta_of x) → eqb (quanta_of x) 0 ≡ false
    → IsMember f x → IsPositive f x
positive_of f x e off m =
    record { is = e; some = above_zero (quanta_of x) off; member = subst (λ (d : Datum). IsMember f d) e m }

-- what is not below zero has its quanta
pub own_quanta : (x : Datum) (n : ℕ) → x ≡ finite false n → x ≡ finite false (quanta_of x)
own_quanta x n e = e ∙ ap (λ (k : ℕ). finite false k) (sym (ap quanta_of e))
