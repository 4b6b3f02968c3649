-- Where the NaN of e4m3fn is: the significand 15 at the last place.
use Rattle.std.proofs.Common.{◌≡◌, ℕ, ◌+◌, ◌-◌, ◌*◌, ◌^◌, ◌<◌, ◌≤◌, ◌⊎◌, inl, inr, sym, ap, ◌∙◌, ⊎_elim, arith}
use Rattle.std.proofs.Math.Nat.{eq_of_mul-eq-mul_right, lt_of_mul-lt-mul_right, mul-le-mul_right}
use Rattle.std.proofs.lemmas.{Bool.cases_lt, Nat.pow-add, Nat.pow_pos}
use Rattle.apfloat_model.specs.rounding.Grid.{IsOnGrid}
use Rattle.apfloat_model.proofs.general.Powers.{half_at_most, twice_power}

-- 15 at a place up to the last one
fifteen_at : (s place x : ℕ) → s < 16 → place ≤ 14 → x ≡ s * 2 ^ place → (x ≤ 14 * 2 ^ 14) ⊎ (x ≡ 15 * 2 ^ 14)
fifteen_at s place x few l is =
    ⊎_elim
    (λ (k : place < 14).
    let digits : s ≤ 15 = omega (arith, few) in
    let most : s * 2 ^ place ≤ 15 * 2 ^ place = mul-le-mul_right (2 ^ place) digits in
    inl (omega (arith, half_at_most place 14 k, most, is)))
    (λ (k : 14 ≤ place).
    let e : place ≡ 14 = omega (arith, k, l) in
    let is' : x ≡ s * 2 ^ 14 = is ∙ ap (λ (n : ℕ). s * 2 ^ n) e in
    ⊎_elim
    (λ (r : s < 15).
    let digits : s ≤ 14 = omega (arith, r) in
    let most : s * 2 ^ 14 ≤ 14 * 2 ^ 14 = mul-le-mul_right (2 ^ 14) digits in
    inl (omega (arith, most, is')))
    (λ (r : 15 ≤ s). inr (is' ∙ ap (λ (n : ℕ). n * 2 ^ 14) (let z : s ≡ 15 = omega (arith, r, few) in z)))
    (cases_lt s 15))
    (cases_lt place 14)

-- a point of four digits below 2 ^ 18 is at most the largest number, or it has that significand there
pub top_cases : (x : ℕ) → IsOnGrid 4 x → x < 2 ^ (4 + 14) → (x ≤ 14 * 2 ^ 14) ⊎ (x ≡ 15 * 2 ^ 14)
top_cases x g below =
    let s = g.significand in
    let fits = g.fits in
    let is = g.is in
    ⊎_elim
    (λ (l : 14 < g.place).
    let k : ℕ = g.place - 14 in
    let e : g.place ≡ k + 14 = omega (arith, l) in
    let split : 2 ^ g.place ≡ 2 ^ k * 2 ^ 14 = ap (λ (n : ℕ). 2 ^ n) e ∙ pow-add 2 k 14 in
    let whole : x ≡ s * 2 ^ k * 2 ^ 14 =
    is ∙ ap (λ (n : ℕ). s * n) split
    ∙ (let z : s * (2 ^ k * 2 ^ 14) ≡ s * 2 ^ k * 2 ^ 14 = omega arith in z) in
    let end : 2 ^ (4 + 14) ≡ 16 * 2 ^ 14 = pow-add 2 4 14 in
    let less : s * 2 ^ k < 16 = lt_of_mul-lt-mul_right (2 ^ 14) (omega (arith, below, end, whole)) in
    fifteen_at (s * 2 ^ k) 14 x less (omega arith) whole)
    (λ (l : g.place ≤ 14). fifteen_at s g.place x (omega (arith, fits)) l is)
    (cases_lt 14 g.place)

-- what is moved there had that significand at a lower place
pub moved_there : (n more : ℕ) → n * 2 ^ more ≡ 15 * 2 ^ 14 → (place : ℕ) × (n ≡ 15 * 2 ^ place) × (place + more ≡ 14)
moved_there n more e =
    ⊎_elim
    (λ (l : 14 < more).
    let k : ℕ = more - 15 in
    let at : more ≡ k + 1 + 14 = omega (arith, l) in
    let split : 2 ^ more ≡ 2 ^ (k + 1) * 2 ^ 14 = ap (λ (x : ℕ). 2 ^ x) at ∙ pow-add 2 (k + 1) 14 in
    let whole : n * 2 ^ more ≡ 2 * (n * 2 ^ k) * 2 ^ 14 =
    ap (λ (x : ℕ). n * x) split ∙ ap (λ (x : ℕ). n * (x * 2 ^ 14)) (twice_power k) ∙ omega arith in
    absurd (omega (arith, eq_of_mul-eq-mul_right (2 ^ 14) (pow_pos 14) (2 * (n * 2 ^ k)) 15 (sym whole ∙ e))))
    (λ (l : more ≤ 14).
    let place : ℕ = 14 - more in
    let at : 14 ≡ place + more = omega (arith, l) in
    let split : 2 ^ 14 ≡ 2 ^ place * 2 ^ more = ap (λ (x : ℕ). 2 ^ x) at ∙ pow-add 2 place more in
    let whole : n * 2 ^ more ≡ 15 * 2 ^ place * 2 ^ more = e ∙ ap (λ (x : ℕ). 15 * x) split ∙ omega arith in
    (place, eq_of_mul-eq-mul_right (2 ^ more) (pow_pos more) n (15 * 2 ^ place) whole, sym at))
    (cases_lt 14 more)
