-- The scales of NVFP4.
use Rattle.std.proofs.Common.{◌≡◌, ℕ, zero, suc, ◌+◌, ◌*◌, ◌^◌, ◌<◌, ◌≤◌, max, Bool, true}
use Rattle.std.proofs.Common.{false, cond, not, ◌&&◌, eqb, ltb, refl, sym, ap, ◌∙◌, subst, arith}
use Rattle.std.proofs.lemmas.{Bool.agree_below_at, Bool.lt-ltb, Bool.ltb-true, Nat.pow-add}
use Rattle.std.proofs.Math.Nat.{le-max_left, mul-pos}
use Rattle.std.specs.Bool.{MatchBool}
use Rattle.apfloat_model.specs.declared.kinds.{Category.TheVariants.Normal, Round.Round}
use Rattle.apfloat_model.specs.formats.Datum.{Datum, finite, infinite, nan}
use Rattle.apfloat_model.specs.formats.{Format.Format, Format.largest, Members.IsFiniteOf, Members.IsMember}
use Rattle.apfloat_model.specs.order.Classes.{category_of, is_finite, is_negative, quanta_of}
use Rattle.apfloat_model.specs.order.Positive.{IsPositive}
use Rattle.apfloat_model.proofs.{general.Choices.not_zero, order.Categories.normal_quanta}
use Rattle.small_formats.specs.{Conversions.saturated_value, declared.blocks.elements.ElementFormat.TheVariants.E4M3FN}
use Rattle.small_formats.specs.blocks.{Elements.IsSaturatedIn, Elements.element_datum, Nvfp4.IsNvScale, Nvfp4.IsScaleIn}
use Rattle.small_formats.specs.blocks.Nvfp4.{IsScaleOfSome, is_positive, nan_scale, scale_quanta, unless_zero}
use Rattle.small_formats.proofs.blocks_lemmas.Greatest.{max_right}

-- ---- positive values

pub positive_number : (f : Format) (x : Datum) → category_of x ≡ Normal → is_negative x ≡ false → IsMember f x
    → IsPositive f x
positive_number f (finite b n) e s m =
    let some : 0 < n = normal_quanta (finite b n) e in
    record {
      is = ap (λ (sign : Bool). finite sign n) s;
      some = some;
      member = subst (λ (sign : Bool). IsFiniteOf f sign n) s m;
    }
positive_number f (infinite b) e s m = cc
positive_number f (nan b k) e s m = cc

-- what is normal is a positive number unless it is negative; nothing else is one
pub positive_test : (x : Datum) → category_of x ≡ Normal → not (is_negative x) ≡ is_positive x
positive_test (finite b zero) e = cc
positive_test (finite true (suc n)) e = refl
positive_test (finite false (suc n)) e = sym (lt-ltb 0 (suc n) (omega arith))
positive_test (infinite b) e = cc
positive_test (nan b k) e = cc

pub not_positive : (x : Datum) → (category_of x ≡ Normal → ⊥) → false ≡ is_positive x
not_positive (finite true n) none = refl
not_positive (finite false zero) none = refl
not_positive (finite false (suc n)) none = absurd (none (rw (not_zero (suc n) (omega arith)) refl))
not_positive (infinite b) none = refl
not_positive (nan b k) none = refl

pub positive_quanta : (f : Format) (x : Datum) (significand place n : ℕ) → x ≡ finite false n → 0 < n
    → n ≡ significand * 2 ^ place → significand < 2 ^ f.precision → n ≤ largest f → IsPositive f x
positive_quanta f x significand place n e some at fits within =
    let same : quanta_of x ≡ n = ap quanta_of e in
    let one : IsFiniteOf f false n = record {
      on_grid = record { significand = significand; place = place; fits = fits; is = at };
      within = within;
      zero_has = λ z. absurd (omega (arith, z, some));
    } in
    record {
      is = e ∙ sym (ap (λ (k : ℕ). finite false k) same);
      some = omega (arith, same, some);
      member = subst (λ (k : ℕ). IsFiniteOf f false k) (sym same) one;
    }

-- ---- in place of zero

-- a value that is normal stays, and any other one that is not below zero is a zero
pub normal_stays : (x other : Datum) → category_of x ≡ Normal → x ≡ unless_zero x other
normal_stays (finite b zero) other e = cc
normal_stays (finite b (suc n)) other e = rw (not_zero (suc n) (omega arith)) refl
normal_stays (infinite b) other e = refl
normal_stays (nan b k) other e = refl

pub zero_goes : (x other : Datum) → x ≡ finite false (quanta_of x) → (category_of x ≡ Normal → ⊥)
    → other ≡ unless_zero x other
zero_goes (finite b zero) other e none = refl
zero_goes (finite b (suc n)) other e none = absurd (none (rw (not_zero (suc n) (omega arith)) refl))
zero_goes (infinite b) other e none = cc
zero_goes (nan b k) other e none = cc

pub normal_sign : (x : Datum) → x ≡ finite false (quanta_of x) → is_negative x ≡ false
normal_sign x e = ap is_negative e

saturated_some : (test : Bool) (m n : ℕ) → cond test (finite false m) (finite false n) ≡ finite false (cond test m n)
saturated_some true m n = refl
saturated_some false m n = refl

-- a saturated quotient that is not below zero is a number
pub saturated_own : (g : Format) (pick : ℕ) (x : Datum) → x ≡ saturated_value g false pick
    → x ≡ finite false (quanta_of x)
saturated_own g pick x e =
    let is = e ∙ saturated_some (ltb (largest g) pick) (largest g) pick in
    is ∙ sym (ap (λ (k : ℕ). finite false k) (ap quanta_of is))

pub quotient_own : (g : Format) (mode : Round) (negative : Bool) (amount parts : ℕ) (quotient : Datum) (status : ℕ)
    → negative ≡ false → IsSaturatedIn g mode negative amount parts quotient status
    → quotient ≡ finite false (quanta_of quotient)
quotient_own g mode negative amount parts quotient status s h =
    let h' = subst (λ (b : Bool). IsSaturatedIn g mode b amount parts quotient status) s h in
    saturated_own g h'.pick quotient h'.value_is

pub scale_in_of : (g : Format) (mode : Round) (negative : Bool) (amount parts least : ℕ) (quotient other scale : Datum)
    (status : ℕ) → negative ≡ false → IsSaturatedIn g mode negative amount parts quotient status
    → other ≡ finite false least → scale ≡ unless_zero quotient other → IsScaleIn g mode amount parts least scale
scale_in_of g mode negative amount parts least quotient other scale status s h o e =
    let h' = subst (λ (b : Bool). IsSaturatedIn g mode b amount parts quotient status) s h in
    record {
      pick = h'.pick;
      is_pick = h'.is_pick;
      is = e ∙ ap (λ (x : Datum). unless_zero x other) h'.value_is
          ∙ ap (λ (x : Datum). unless_zero (saturated_value g false h'.pick) x) o;
    }

-- ---- quotients

-- q quanta of 2 ^ -s over n, where the divisor is n * 2 ^ b quanta
pub whole_ratio : (q y s n a b : ℕ) → y ≡ n * 2 ^ b → q * 2 ^ a * (y * 2 ^ s) ≡ 2 ^ s * n * (q * 2 ^ (b + a))
whole_ratio q y s n a b e =
    let power : 2 ^ (b + a) ≡ 2 ^ b * 2 ^ a = pow-add 2 b a in
    ap (λ (k : ℕ). q * 2 ^ a * (k * 2 ^ s)) e
    ∙ (let z : q * 2 ^ a * (n * 2 ^ b * 2 ^ s) ≡ 2 ^ s * n * (q * (2 ^ b * 2 ^ a)) = omega arith in z)
    ∙ ap (λ (k : ℕ). 2 ^ s * n * (q * k)) (sym power)

-- the same over six times t quanta
pub sixth_ratio : (q y six s t a b c : ℕ) → six ≡ 6 * 2 ^ b → y * 2 ^ a ≡ six * t * 2 ^ c
    → q * 2 ^ a * (y * 2 ^ s) ≡ 2 ^ s * (6 * t) * (q * 2 ^ (c + b))
sixth_ratio q y six s t a b c k e =
    let power : 2 ^ (c + b) ≡ 2 ^ c * 2 ^ b = pow-add 2 c b in
    (let z : q * 2 ^ a * (y * 2 ^ s) ≡ q * 2 ^ s * (y * 2 ^ a) = omega arith in z)
    ∙ ap (λ (x : ℕ). q * 2 ^ s * x) (e ∙ ap (λ (x : ℕ). x * t * 2 ^ c) k)
    ∙ (let z : q * 2 ^ s * (6 * 2 ^ b * t * 2 ^ c) ≡ 2 ^ s * (6 * t) * (q * (2 ^ c * 2 ^ b)) = omega arith in z)
    ∙ ap (λ (x : ℕ). 2 ^ s * (6 * t) * (q * x)) (sym power)

-- ---- codes

-- a number that is not below zero
abbrev pub is_number : ℕ → Bool
is_number code = is_finite (element_datum E4M3FN code) && not (is_negative (element_datum E4M3FN code))

-- of all codes these are the ones below that of the NaN
numbers_below : (code : ℕ) → code < 256 → ltb code nan_scale ≡ is_number code
numbers_below code l = agree_below_at (λ (n : ℕ). ltb n 127) is_number 256 code refl l

own_number : (x : Datum) → (is_finite x && not (is_negative x)) ≡ true → x ≡ finite false (quanta_of x)
own_number (finite true n) e = cc
own_number (finite false n) e = refl
own_number (infinite b) e = cc
own_number (nan b k) e = cc

pub number_of_code : (code : ℕ) → code < nan_scale
    → element_datum E4M3FN code ≡ finite false (quanta_of (element_datum E4M3FN code))
number_of_code code l =
    own_number (element_datum E4M3FN code) (sym (numbers_below code (omega (arith, l))) ∙ lt-ltb code nan_scale l)

number_is : (x : Datum) (n : ℕ) → x ≡ finite false n → (is_finite x && not (is_negative x)) ≡ true
number_is x n e = ap (λ (d : Datum). is_finite d && not (is_negative d)) e

pub code_of_number : (code : ℕ) (x : Datum) → code < 256 → element_datum E4M3FN code ≡ x
    → x ≡ finite false (quanta_of x) → code < nan_scale
code_of_number code x l e is =
    ltb-true code nan_scale (numbers_below code l ∙ number_is (element_datum E4M3FN code) (quanta_of x) (e ∙ is))

-- ---- the scale of a block

pub record IsScaleOf (f : Format) (mode : Round) (tensor greatest code : ℕ) (scale : Datum) : Type 0 where
  pub is_scale : IsNvScale f mode tensor greatest code
  pub divisor_is : max 1 (scale_quanta code) ≡ quanta_of scale

-- of zeros the code is 0 and the scale the least one; otherwise the code is that of the scale
pub scale_of_code : (f : Format) (mode : Round) (tensor greatest code : ℕ) (zeros : Bool) (scale : Datum)
    → code < nan_scale → zeros ≡ eqb greatest 0 → (zeros ≡ true → code ≡ 0)
    → (zeros ≡ false → element_datum E4M3FN code ≡ scale) → 0 < quanta_of scale
    → MatchBool (eqb greatest 0) (scale ≡ finite false 1) (IsScaleOfSome f mode tensor greatest scale)
    → IsScaleOf f mode tensor greatest code scale
scale_of_code f mode tensor greatest code zeros scale below z none some positive h = by_test (eqb greatest 0) refl h
  where
    by_test : (test : Bool) → eqb greatest 0 ≡ test
        → MatchBool test (scale ≡ finite false 1) (IsScaleOfSome f mode tensor greatest scale)
        → IsScaleOf f mode tensor greatest code scale
    by_test true e k =
        let zero_code : code ≡ 0 = none (z ∙ e) in
        record {
          is_scale = (below, rw e zero_code);
          divisor_is = ap (λ (n : ℕ). max 1 (scale_quanta n)) zero_code ∙ sym (ap quanta_of k);
        }
    by_test false e k =
        let same = some (z ∙ e) in
        let quanta : scale_quanta code ≡ quanta_of scale = ap quanta_of same in
        record {
          is_scale = (below, rw e (subst (λ (d : Datum). IsScaleOfSome f mode tensor greatest d) (sym same) k));
          divisor_is = max_right 1 (scale_quanta code) (omega (arith, quanta, positive)) ∙ quanta;
        }

-- what elements are divided by is not 0
pub divisor_some : (code tensor : ℕ) → 0 < tensor → 0 < max 1 (scale_quanta code) * tensor
divisor_some code tensor some = mul-pos (le-max_left 1 (scale_quanta code)) some
