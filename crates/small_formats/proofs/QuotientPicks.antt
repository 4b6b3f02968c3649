-- The quotient of two numbers with 125 digits, in quanta of a third format.
use Rattle.std.proofs.Common.{if◌then◌else◌, ◌≡◌, ℕ, zero, suc, ◌+◌, ◌-◌, ◌*◌, ◌/◌, ◌^◌, ◌<◌, ◌≤◌, Bool, true, false}
use Rattle.std.proofs.Common.{eqb, refl, sym, ap, ◌∙◌, subst, arith, ℤ, pos, ◌+ℤ◌, ◌-ℤ◌}
use Rattle.std.proofs.Math.Nat.{mul-le-mul_right, mul-pos, eq_of_mul-eq-mul_right, le-div_iff_mul-le}
use Rattle.std.proofs.lemmas.{Bool.eq-eqb, Bool.ne_eqb, Int.ints, Nat.pow-add, Nat.pow_pos}
use Rattle.apfloat_model.specs.declared.{kinds.Round.Round, loss.Loss.Loss}
use Rattle.apfloat_model.specs.declared.kinds.{Category.TheVariants.Normal, NonfiniteBehavior.NonfiniteBehavior}
use Rattle.apfloat_model.specs.formats.Datum.{Datum, finite, infinite, nan}
use Rattle.apfloat_model.specs.order.Classes.{category_of, is_finite, is_negative, quanta_of}
use Rattle.apfloat_model.specs.rounding.{Negation.negated, Rounding.IsPick}
use Rattle.apfloat_model.specs.rounding.Standing.{StandsFor, up, down}
use Rattle.apfloat_model.proofs.{arithmetic.Fractions.quotient_carries, rounding.KeptDigits.stands_cancel}
use Rattle.apfloat_model.proofs.rounding.{KeptDigits.stands_times, Laws.exact_is_picked, Laws.zero_on_grid}
use Rattle.apfloat_model.proofs.order.PositiveValues.{magnitude_is, some_quanta}
use Rattle.small_formats.specs.{Codes.point, Picks.IsPickedAt}
use Rattle.small_formats.proofs.CodesCompared.{zero_point}

-- what stands for one of two equal fractions stands for the other
pub stands_across : (q : ℕ) (loss : Loss) (a b amount parts d u : ℕ) → 0 < b → 0 < parts → amount * b ≡ parts * a
    → StandsFor q loss (a * d) (b * u) → StandsFor q loss (amount * d) (parts * u)
stands_across q loss a b amount parts d u p p' e h =
    let top : a * d * parts ≡ amount * d * b =
    let x : amount * b * d ≡ parts * a * d = ap (λ (n : ℕ). n * d) e in omega (arith, x) in
    let bottom : b * u * parts ≡ parts * u * b = omega arith in
    stands_cancel q loss (amount * d) (parts * u) b p
    (subst (λ (n : ℕ). StandsFor q loss (amount * d * b) n) bottom
    (subst (λ (n : ℕ). StandsFor q loss n (b * u * parts)) top (stands_times q loss (a * d) (b * u) parts p' h)))

-- the quotient of x and y, of formats of the scales s and t, in quanta of the scale `into`
pub quotient_stands : (q : ℕ) (loss : Loss) (sx sy m n s t into : ℕ) (e f unit : ℤ) (amount parts : ℕ) → 0 < n
    → 0 < parts → m * 2 ^ down (e +ℤ pos s) ≡ sx * 2 ^ up (e +ℤ pos s)
    → n * 2 ^ down (f +ℤ pos t) ≡ sy * 2 ^ up (f +ℤ pos t) → unit ≡ ((e -ℤ f) -ℤ pos 126) +ℤ pos into
    → StandsFor q loss (sx * 2 ^ 126) sy → amount * (n * 2 ^ s) ≡ parts * (m * 2 ^ (t + into))
    → StandsFor q loss (amount * 2 ^ down unit) (parts * 2 ^ up unit)
quotient_stands q loss sx sy m n s t into e f unit amount parts p p' hx hy is h same =
    let x : ℤ = e +ℤ pos s in
    let y : ℤ = f +ℤ pos t in
    let carried : StandsFor q loss (m * 2 ^ (t + into) * 2 ^ down unit) (n * 2 ^ (s + up unit)) =
    quotient_carries (λ a b. StandsFor q loss a b) sx sy m n 126 (up x) (up y) (down x) (down y) (t + into)
    (s + up unit) (down unit) (λ a b w v. stands_times q loss a b w v) (λ a b w v. stands_cancel q loss a b w v) hx hy
    (omega (arith, ints, is)) h in
    let split : n * 2 ^ (s + up unit) ≡ n * 2 ^ s * 2 ^ up unit =
    ap (λ (k : ℕ). n * k) (pow-add 2 s (up unit)) ∙ omega arith in
    stands_across q loss (m * 2 ^ (t + into)) (n * 2 ^ s) amount parts (2 ^ down unit) (2 ^ up unit)
    (mul-pos p (pow_pos s)) p' same
    (subst (λ (k : ℕ). StandsFor q loss (m * 2 ^ (t + into) * 2 ^ down unit) k) split carried)

-- a quotient with 126 more places has at least as many digits as the dividend
pub quotient_long : (q n d half places : ℕ) → 0 < d → half ≤ n → d ≤ 2 * half → 1 ≤ places → q ≡ n * 2 ^ places / d
    → 2 ^ (places - 1) ≤ q
quotient_long q n d half places p l s one is =
    let whole : places ≡ places - 1 + 1 = omega (arith, one) in
    let twice : 2 ^ places ≡ 2 ^ (places - 1) * 2 = ap (λ (k : ℕ). 2 ^ k) whole ∙ pow-add 2 (places - 1) 1 in
    let a : half * 2 ^ places ≤ n * 2 ^ places = mul-le-mul_right (2 ^ places) l in
    let b : d * 2 ^ (places - 1) ≤ 2 * half * 2 ^ (places - 1) = mul-le-mul_right (2 ^ (places - 1)) s in
    let c : half * 2 ^ places ≡ 2 * half * 2 ^ (places - 1) = ap (λ (k : ℕ). half * k) twice ∙ omega arith in
    subst (λ (k : ℕ). 2 ^ (places - 1) ≤ k) (sym is) ((le-div_iff_mul-le p).1 (omega (arith, a, b, c)))

-- a nonzero number and its absolute value have the same quanta
pub magnitude_quanta : (kind : NonfiniteBehavior) (x y : Datum) → category_of x ≡ Normal
    → y ≡ (if is_negative x then negated kind x else x) → quanta_of y ≡ quanta_of x
magnitude_quanta kind (finite b n) y e is = ap quanta_of (is ∙ magnitude_is kind b n (some_quanta b n e))
magnitude_quanta kind (infinite b) y e is = cc
magnitude_quanta kind (nan b s) y e is = cc

-- what is finite and no nonzero number is a zero
pub no_number : (x : Datum) → is_finite x ≡ true → (category_of x ≡ Normal → ⊥) → quanta_of x ≡ 0
no_number (finite b zero) h n = refl
no_number (finite b (suc m)) h n =
    let off : eqb (suc m) 0 ≡ false = ne_eqb (suc m) 0 (λ e. omega (arith, e)) in
    absurd (n (rw off refl))
no_number (infinite b) h n = cc
no_number (nan b s) h n = cc

-- a quotient of nothing is zero
pub no_quotient : (amount parts b a : ℕ) → 0 < b → a ≡ 0 → amount * b ≡ parts * a → amount ≡ 0
no_quotient amount parts b a p z e =
    let none : amount * b ≡ 0 * b = e ∙ ap (λ (k : ℕ). parts * k) z ∙ omega arith in
    eq_of_mul-eq-mul_right b p amount 0 none

pub zero_picked : (p : ℕ) (mode : Round) (negative : Bool) (amount parts : ℕ) → 0 < parts → amount ≡ 0
    → IsPickedAt p mode negative amount parts 0 true
zero_picked p mode negative amount parts q z =
    let at : point p 0 ≡ 0 = zero_point p in
    let none : 0 * parts ≡ amount = omega (arith, z) in
    let same : point p 0 * parts ≡ amount = ap (λ (k : ℕ). k * parts) at ∙ none in
    record {
      is_pick = subst (λ (k : ℕ). IsPick p mode negative amount parts k) (sym at)
          (exact_is_picked p mode negative 0 amount parts q (zero_on_grid p) (sym none));
      exact_is = sym (eq-eqb (point p 0 * parts) amount same);
    }
