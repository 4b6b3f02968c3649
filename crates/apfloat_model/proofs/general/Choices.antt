-- Truth values, and choices that depend on them.
use Rattle.std.proofs.Common.{◌≡◌, ℕ, zero, suc, ◌+◌, ◌*◌, ◌%◌, ◌<◌, ◌≤◌, Bool, true, false, cond, not, ◌&&◌, ◌||◌, eqb}
use Rattle.std.proofs.Common.{ltb, leb, if◌then◌else◌, Option, Some, None, refl, sym, ap, ◌∙◌, ⊎_elim, arith}
use Rattle.std.proofs.lemmas.Bool.{eq-eqb, ne_eqb, lt-ltb, le-ltb, lt-leb, le-leb, cases_lt, cases_eq, false≢true}
use Rattle.std.proofs.lemmas.Option.{none-some}
use Rattle.std.proofs.Math.Nat.{mul-le-mul_right, mul-lt-mul_of_pos_right, eq_of_mul-eq-mul_right}
use Rattle.std.specs.Bool.{MatchBool}
use Rattle.apfloat_model.specs.arithmetic.Exact.{same_sign, product_sign}
use mathlib.Core.Bool.{beq}

-- ---- tests

-- each number tests equal to itself
pub eqb_self : (n : ℕ) → eqb n n ≡ true
eqb_self n = eq-eqb n n refl

-- a truth value that is not true is false
pub off_by : (test : Bool) → (test ≡ true → ⊥) → false ≡ test
off_by true h = absurd (h refl)
off_by false h = refl

-- no test holds together with its negation
not_itself : (test : Bool) → (test && not (test && true)) ≡ false
not_itself true = refl
not_itself false = refl

-- a test that cannot hold excludes nothing
pub no_zero : (test exact : Bool) → (exact && not (test && false)) ≡ exact
no_zero true true = refl
no_zero true false = refl
no_zero false true = refl
no_zero false false = refl

-- two chains of tests agree if they agree wherever the earlier tests leave the choice open
pub where_open : (x y t u : Bool) → (x ≡ false → y ≡ true → t ≡ u) → (x || (y && not t)) ≡ (x || (y && not u))
where_open true y t u h = refl
where_open false false t u h = refl
where_open false true t u h = ap (λ (b : Bool). not b) (h refl refl)

-- ---- signs that are the same

-- the model compares signs as the language does
pub same_beq : (left right : Bool) → beq left right ≡ same_sign left right
same_beq true true = refl
same_beq true false = refl
same_beq false true = refl
same_beq false false = refl

-- signs that test as the same are equal
pub same_sign_is : (left right : Bool) → same_sign left right ≡ true → left ≡ right
same_sign_is true true e = refl
same_sign_is true false e = cc
same_sign_is false true e = cc
same_sign_is false false e = refl

-- each sign tests as the same as itself
pub same_sign_self : (sign : Bool) → same_sign sign sign ≡ true
same_sign_self true = refl
same_sign_self false = refl

-- truth values that compare equal are equal
pub like : (left right : Bool) → beq left right ≡ true → left ≡ right
like left right e = same_sign_is left right (sym (same_beq left right) ∙ e)

-- truth values that compare unequal are not equal
pub unlike : (left right : Bool) → beq left right ≡ false → left ≡ right → ⊥
unlike true true e d = absurd (false≢true (sym e))
unlike false false e d = absurd (false≢true (sym e))
unlike true false e d = false≢true (sym d)
unlike false true e d = false≢true d

-- ---- a number chosen by a test

-- a factor can be moved into both choices
pub cond_times : (test : Bool) (x y factor : ℕ) → (cond test x y) * factor ≡ cond test (x * factor) (y * factor)
cond_times true x y factor = refl
cond_times false x y factor = refl

-- a choice between a number and itself is that number
pub cond_same : (test : Bool) (x : ℕ) → x ≡ cond test x x
cond_same true x = refl
cond_same false x = refl

-- a choice between 0 and a number that is 0 is 0
pub zero_if : (test : Bool) (m : ℕ) → m ≡ 0 → 0 ≡ (if test then 0 else m)
zero_if true m e = refl
zero_if false m e = sym e

-- a test that holds wherever another does chooses no smaller number
pub cond_grows : (first second : Bool) (high low : ℕ) → low ≤ high → (first ≡ true → second ≡ true)
    → cond first high low ≤ cond second high low
cond_grows true true high low h f = omega arith
cond_grows true false high low h f = absurd (false≢true (f refl))
cond_grows false true high low h f = h
cond_grows false false high low h f = omega arith

-- the choice is between the two numbers
pub cond_within : (test : Bool) (high low : ℕ) → low ≤ high → (cond test high low ≤ high) × (low ≤ cond test high low)
cond_within true high low h = (omega arith, h)
cond_within false high low h = (h, omega arith)

-- a number strictly between two multiples is neither of them
pub off_both : (test : Bool) (q amount parts : ℕ) → q * parts < amount → amount < (q + 1) * parts
    → cond test (q + 1) q * parts ≡ amount → ⊥
off_both true q amount parts l k e = omega arith
off_both false q amount parts l k e = omega arith

-- ---- a truth value as a binary digit

-- the digit of a truth value is below 2
pub digit_low : (value : Bool) → cond value 1 0 < 2
digit_low true = omega arith
digit_low false = omega arith

-- the digit is odd exactly if the truth value is true
pub digit_odd : (value : Bool) → eqb (cond value 1 0 % 2) 1 ≡ value
digit_odd true = refl
digit_odd false = refl

-- a number below 2 is the digit of the truth value that it is odd
pub odd_digit : (n : ℕ) → n < 2 → cond (eqb (n % 2) 1) 1 0 ≡ n
odd_digit zero h = refl
odd_digit (suc zero) h = refl
odd_digit (suc (suc n)) h = absurd (omega arith)

-- ---- a fact chosen by a test

-- each of the following proves the fact that a test of known value chooses
pub match_true : (test : Bool) (P Q : Type 0) → test ≡ true → P → MatchBool test P Q
match_true true P Q e p = p
match_true false P Q e p = cc

pub match_false : (test : Bool) (P Q : Type 0) → test ≡ false → Q → MatchBool test P Q
match_false true P Q e q = cc
match_false false P Q e q = q

-- a test that holds has chosen the first fact
pub chosen : (test : Bool) (P Q : Type 0) → test ≡ true → MatchBool test P Q → P
chosen true P Q e h = h
chosen false P Q e h = absurd (false≢true e)

-- what holds of two predicates holds of whichever a test chooses
pub match_one : {A : Type 0} (Holds : (A → Type 0) → Type 0) (test : Bool) (P Q : A → Type 0) → Holds P → Holds Q
    → Holds (λ a. MatchBool test (P a) (Q a))
match_one Holds true P Q p q = p
match_one Holds false P Q p q = q

-- what holds of two binary relations holds of whichever a test chooses
pub match_case : {A B : Type 0} (Holds : (A → B → Type 0) → Type 0) (test : Bool) (P Q : A → B → Type 0) → Holds P
    → Holds Q → Holds (λ a b. MatchBool test (P a b) (Q a b))
match_case Holds true P Q p q = p
match_case Holds false P Q p q = q

-- what holds of two ternary relations holds of whichever a test chooses
pub match_three : {A B C : Type 0} (Holds : (A → B → C → Type 0) → Type 0) (test : Bool) (P Q : A → B → C → Type 0)
    → Holds P → Holds Q → Holds (λ a b c. MatchBool test (P a b c) (Q a b c))
match_three Holds true P Q p q = p
match_three Holds false P Q p q = q

-- what holds of both choices, each under its test, holds of the choice
pub if_case : {A : Type 0} (P : A → Type 0) {first second : A} (test : Bool) → (test ≡ true → P first)
    → (test ≡ false → P second) → P (if test then first else second)
if_case P true l r = l refl
if_case P false l r = r refl

-- if both choices are false, so is the chosen one
pub either_false : (test first second : Bool) → first ≡ false → second ≡ false → cond test first second ≡ false
either_false true x y e g = e
either_false false x y e g = g

-- ---- an option chosen by one test, by two, or by three

-- a test that holds leaves the choice to the other test
pub passed : (test other : Bool) (option : Option ℕ) → test ≡ true
    → (if test && other then option else None) ≡ (if other then option else None)
passed true other x h = refl
passed false other x h = cc

-- a test that fails chooses none
pub refused : (test other : Bool) (option : Option ℕ) → test ≡ false → (if test && other then option else None) ≡ None
refused true other x h = cc
refused false other x h = refl

-- of three tests, one that holds leaves the choice to the other two
pub first_holds : (first second third : Bool) (option : Option ℕ) → first ≡ true
    → (if first && second && third then option else None) ≡ (if second && third then option else None)
first_holds true e l x h = refl
first_holds false e l x h = cc

-- the first of three tests chooses none if it fails
pub first_fails : (first second third : Bool) (option : Option ℕ) → first ≡ false
    → (if first && second && third then option else None) ≡ None
first_fails true e l x h = cc
first_fails false e l x h = refl

-- the last of two tests chooses none if it fails
pub last_fails : (first second : Bool) (option : Option ℕ) → second ≡ false
    → (if first && second then option else None) ≡ None
last_fails true true x h = cc
last_fails true false x h = refl
last_fails false l x h = refl

-- if none is chosen, the test chose the other option, which is none
pub left_none : {A : Type 0} (test : Bool) (item : A) (other : Option A) → cond test (Some item) other ≡ None
    → (test ≡ false) × (other ≡ None)
left_none true a other h = absurd (none-some a (sym h))
left_none false a other h = (refl, h)

-- ---- numbers compared, as truth values

-- a number above 0 is not 0
pub not_zero : (n : ℕ) → 0 < n → eqb n 0 ≡ false
not_zero n h = ne_eqb n 0 (λ e. omega (arith, e, h))

-- a number that does not test as 0 is above 0
pub above_zero : (n : ℕ) → eqb n 0 ≡ false → 0 < n
above_zero zero e = cc
above_zero (suc n) e = omega arith

-- a factor above 0 does not change whether two numbers are equal
pub eqb_times : (a b factor : ℕ) → 0 < factor → eqb a b ≡ eqb (a * factor) (b * factor)
eqb_times a b u p =
    ⊎_elim (λ (e : a ≡ b). eq-eqb a b e ∙ sym (eq-eqb (a * u) (b * u) (ap (λ (x : ℕ). x * u) e)))
    (λ (e : a ≡ b → ⊥). ne_eqb a b e ∙ sym (ne_eqb (a * u) (b * u) (λ h. e (eq_of_mul-eq-mul_right u p a b h))))
    (cases_eq a b)

-- a factor above 0 does not change the order of two numbers
pub ltb_times : (a b factor : ℕ) → 0 < factor → ltb a b ≡ ltb (a * factor) (b * factor)
ltb_times a b u p =
    ⊎_elim (λ (h : a < b). lt-ltb a b h ∙ sym (lt-ltb (a * u) (b * u) (mul-lt-mul_of_pos_right h p)))
    (λ (h : b ≤ a). le-ltb a b h ∙ sym (le-ltb (a * u) (b * u) (mul-le-mul_right u h))) (cases_lt a b)

-- a number that is neither 0 nor below a positive bound is at least that bound
pub at_least : (n m : ℕ) → 0 < m → (ltb 0 n && not (ltb 0 n && ltb n m)) ≡ leb m n
at_least n m h =
    ⊎_elim (λ (l : n < m). rw (lt-ltb n m l, lt-leb m n l) (not_itself (ltb 0 n)))
    (λ (l : m ≤ n). rw (lt-ltb 0 n (omega (arith, h, l)), le-ltb n m l, le-leb m n l) refl) (cases_lt n m)

-- what holds in each of the three orders of two numbers holds
pub by_order : (P : Type 0) (m n : ℕ) → (m < n → P) → (m ≡ n → P) → (n < m → P) → P
by_order P m n l e g =
    ⊎_elim l (λ (h : n ≤ m). ⊎_elim g (λ (k : m ≤ n). e (omega arith)) (cases_lt n m)) (cases_lt m n)

-- ---- the sign of a product

-- the negation of one factor negates the sign of the product
pub other_sign : (left right : Bool) → not (product_sign left right) ≡ product_sign (not left) right
other_sign true true = refl
other_sign true false = refl
other_sign false true = refl
other_sign false false = refl

-- ---- one of two equal values

-- a choice between two equal values is the first of them
pub either : {A : Type 0} (test : Bool) (one other : A) → one ≡ other → (if test then one else other) ≡ one
either true x y e = refl
either false x y e = sym e

-- if both values are equal whenever all three tests hold, the last test does not matter
pub needless_last : {A : Type 0} (first second last : Bool) (one other : A)
    → (first ≡ true → second ≡ true → last ≡ true → one ≡ other)
    → (if first && (second && not last) then one else other) ≡ (if first && second then one else other)
needless_last false second last x y h = refl
needless_last true false last x y h = refl
needless_last true true false x y h = refl
needless_last true true true x y h = sym (h refl refl refl)

-- after two tests, the last value is chosen only if both fail
pub where_both_fail : {A : Type 0} (first second : Bool) (left right one other : A)
    → (first ≡ false → second ≡ false → one ≡ other) → (if first then left else (if second then right else one))
    ≡ (if first then left else (if second then right else other))
where_both_fail true second x y p q h = refl
where_both_fail false true x y p q h = refl
where_both_fail false false x y p q h = h refl refl
