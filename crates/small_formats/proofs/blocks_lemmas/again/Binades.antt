-- The exponents of a number, of its products with powers of two, and of a scale that is clamped.
use Rattle.std.proofs.Common.{◌≡◌, ℕ, ◌+◌, ◌-◌, ◌*◌, ◌^◌, ◌<◌, ◌≤◌, min, sym, ap}
use Rattle.std.proofs.Common.{◌∙◌, ⊎_elim, arith, ℤ, pos, ◌+ℤ◌, ◌-ℤ◌}
use Rattle.std.proofs.Math.Nat.{mul-le-mul_right, mul-lt-mul_of_pos_right, lt_of_mul-lt-mul_right, mul-le-mul}
use Rattle.std.proofs.Math.Nat.{pow-le-pow_right}
use Rattle.std.proofs.lemmas.{Bool.cases_lt, Int.ints, Nat.pow-add, Nat.pow_pos}
use Rattle.std.specs.Prelude.{◌≤ℤ◌}
use Rattle.apfloat_model.specs.{arithmetic.Exact.up, rounding.Grid.IsOnGrid}
use Rattle.apfloat_model.proofs.arithmetic.SingleScalings.{up_far, up_le}
use Rattle.apfloat_model.proofs.general.Powers.{exponent_between, two_pos}

-- ---- exponents

-- if products of two numbers with powers of two are equal, the exponent of the first is not the greater one
not_higher : (x y p q a b : ℕ) → 2 ^ p ≤ x → y < 2 ^ (q + 1) → x * 2 ^ a ≡ y * 2 ^ b → p + a ≤ q + b
not_higher x y p q a b low high e =
    let lower : 2 ^ (p + a) ≡ 2 ^ p * 2 ^ a = pow-add 2 p a in
    let k : q + b + 1 ≡ q + 1 + b = omega arith in
    let upper : 2 ^ (q + b + 1) ≡ 2 ^ (q + 1) * 2 ^ b = ap (λ (n : ℕ). 2 ^ n) k ∙ pow-add 2 (q + 1) b in
    let from : 2 ^ p * 2 ^ a ≤ x * 2 ^ a = mul-le-mul_right (2 ^ a) low in
    let to : y * 2 ^ b < 2 ^ (q + 1) * 2 ^ b = mul-lt-mul_of_pos_right high (pow_pos b) in
    exponent_between (x * 2 ^ a) (p + a) (q + b) (omega (arith, lower, from)) (omega (arith, upper, to, e))

pub same_place : (x y p q a b : ℕ) → 2 ^ p ≤ x → x < 2 ^ (p + 1) → 2 ^ q ≤ y → y < 2 ^ (q + 1)
    → x * 2 ^ a ≡ y * 2 ^ b → p + a ≡ q + b
same_place x y p q a b x_low x_high y_low y_high e =
    omega (arith, not_higher x y p q a b x_low y_high e, not_higher y x q p b a y_low x_high (sym e))

-- ---- scales

-- a scale that is so many binades lower, but not below the least one
pub clamped_again : (place scale top code down : ℕ) → place + 127 + down ≡ code + scale + top → code ≤ 254
    → min (up (pos place -ℤ pos scale -ℤ pos top +ℤ pos 127)) 254 ≡ code - down
clamped_again place scale top code down e most =
    let z : ℤ = pos place -ℤ pos scale -ℤ pos top +ℤ pos 127 in
    ⊎_elim
    (λ (l : code < down).
    let high : z ≤ℤ pos 0 = omega (arith, ints, e, l) in
    grind (arith, up_le z 0 high, l))
    (λ (l : down ≤ code).
    let high : z ≤ℤ pos (code - down) = omega (arith, ints, e, l) in
    let low : pos (code - down) ≤ℤ z = omega (arith, ints, e, l) in
    grind (arith, up_le z (code - down) high, (up_far z (code - down) low).0, most))
    (cases_lt code down)

-- a number that is moved up no further than to the greatest exponent
pub below_again : (n place more down : ℕ) → n < 2 ^ (place + 1) → more ≤ down → n * 2 ^ more < 2 ^ (place + down + 1)
below_again n place more down below few =
    let k : place + 1 + more ≤ place + down + 1 = omega (arith, few) in
    let most : 2 ^ (place + 1 + more) ≤ 2 ^ (place + down + 1) = pow-le-pow_right two_pos k in
    let split : 2 ^ (place + 1 + more) ≡ 2 ^ (place + 1) * 2 ^ more = pow-add 2 (place + 1) more in
    let less : n * 2 ^ more < 2 ^ (place + 1) * 2 ^ more = mul-lt-mul_of_pos_right below (pow_pos more) in
    omega (arith, most, split, less)

-- ---- the largest number

-- a point of the grid below the end of that span has at most all digits at the last place
pub within_top : (digits span x : ℕ) → IsOnGrid digits x → x < 2 ^ (digits + span) → x ≤ (2 ^ digits - 1) * 2 ^ span
within_top digits span x g below =
    let s = g.significand in
    let fits = g.fits in
    let is = g.is in
    let end : 2 ^ (digits + span) ≡ 2 ^ digits * 2 ^ span = pow-add 2 digits span in
    ⊎_elim
    (λ (l : span < g.place).
    let k : ℕ = g.place - span in
    let e : g.place ≡ k + span = omega (arith, l) in
    let split : 2 ^ g.place ≡ 2 ^ k * 2 ^ span = ap (λ (n : ℕ). 2 ^ n) e ∙ pow-add 2 k span in
    let whole : s * 2 ^ g.place ≡ s * 2 ^ k * 2 ^ span =
    ap (λ (n : ℕ). s * n) split ∙ (let z : s * (2 ^ k * 2 ^ span) ≡ s * 2 ^ k * 2 ^ span = omega arith in z) in
    let less : s * 2 ^ k < 2 ^ digits = lt_of_mul-lt-mul_right (2 ^ span) (omega (arith, below, end, whole, is)) in
    let most : s * 2 ^ k * 2 ^ span ≤ (2 ^ digits - 1) * 2 ^ span = mul-le-mul_right (2 ^ span) (omega (arith, less))
    in
    omega (arith, is, whole, most))
    (λ (l : g.place ≤ span).
    let few : s ≤ 2 ^ digits - 1 = omega (arith, fits) in
    let low : 2 ^ g.place ≤ 2 ^ span = pow-le-pow_right two_pos l in
    let most : s * 2 ^ g.place ≤ (2 ^ digits - 1) * 2 ^ span = mul-le-mul few low in
    omega (arith, is, most))
    (cases_lt span g.place)
