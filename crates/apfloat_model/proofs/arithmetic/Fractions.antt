-- Products and quotients of numbers of quanta, from their significands.
use Rattle.std.proofs.Common.{◌≡◌, ℕ, ◌+◌, ◌-◌, ◌*◌, ◌/◌, ◌^◌, ◌<◌, ◌≤◌, sym, ap, ◌∙◌, subst, arith}
use Rattle.std.proofs.Math.Nat.{mul-le-mul_left, pow-le-pow_right, eq_of_mul-eq-mul_right, mul-pos, le-div_iff_mul-le}
use Rattle.std.proofs.{Math.Nat.mul-le-mul_right, lemmas.Nat.pow_pos}
use Rattle.apfloat_model.proofs.general.Powers.{pow3, pow4, pow22, two_pos}

-- the significands and the powers of a product, each grouped together
regroup_product : (sx sy pui puj pd : ℕ) → (sx * pui) * (sy * puj) * pd ≡ sx * sy * (pui * puj * pd)
regroup_product sx sy pui puj pd = omega arith

-- the product of two numbers of quanta, from the product of their significands
pub product_stands : (sx sy a b ui uj di dj scale u d : ℕ) → a * 2 ^ di ≡ sx * 2 ^ ui → b * 2 ^ dj ≡ sy * 2 ^ uj
    → ui + uj + d ≡ di + dj + (scale + u) → a * b * 2 ^ d ≡ sx * sy * (2 ^ scale * 2 ^ u)
product_stands sx sy a b ui uj di dj scale u d hx hy e =
    let p : 2 ^ ui * 2 ^ uj * 2 ^ d ≡ 2 ^ di * 2 ^ dj * (2 ^ scale * 2 ^ u) = sym (pow3 ui uj d) ∙
    ap (λ (x : ℕ). 2 ^ x) e ∙ pow22 di dj scale u in
    let m : (a * 2 ^ di) * (b * 2 ^ dj) * 2 ^ d ≡ (sx * 2 ^ ui) * (sy * 2 ^ uj) * 2 ^ d =
    ap (λ (x : ℕ). x * (b * 2 ^ dj) * 2 ^ d) hx ∙ ap (λ (x : ℕ). (sx * 2 ^ ui) * x * 2 ^ d) hy in
    let k : sx * sy * (2 ^ ui * 2 ^ uj * 2 ^ d) ≡ sx * sy * (2 ^ di * 2 ^ dj * (2 ^ scale * 2 ^ u)) =
    ap (λ (x : ℕ). sx * sy * x) p in
    let l : a * b * 2 ^ d * (2 ^ di * 2 ^ dj) ≡ (a * 2 ^ di) * (b * 2 ^ dj) * 2 ^ d = omega arith in
    let r : sx * sy * (2 ^ di * 2 ^ dj * (2 ^ scale * 2 ^ u)) ≡ sx * sy * (2 ^ scale * 2 ^ u) * (2 ^ di * 2 ^ dj) =
    omega arith in
    eq_of_mul-eq-mul_right (2 ^ di * 2 ^ dj) (mul-pos (pow_pos di) (pow_pos dj)) (a * b * 2 ^ d)
    (sx * sy * (2 ^ scale * 2 ^ u)) (l ∙ m ∙ regroup_product sx sy (2 ^ ui) (2 ^ uj) (2 ^ d) ∙ k ∙ r)

-- a property of the quotient of two significands that does not depend on the unit carries over to the quotient of the
-- numbers of quanta
pub quotient_carries : (Says : ℕ → ℕ → Type 0) (sx sy a b places ui uj di dj scale u d : ℕ)
    → ((amount unit w : ℕ) → 0 < w → Says amount unit → Says (amount * w) (unit * w))
    → ((amount unit w : ℕ) → 0 < w → Says (amount * w) (unit * w) → Says amount unit) → a * 2 ^ di ≡ sx * 2 ^ ui
    → b * 2 ^ dj ≡ sy * 2 ^ uj → di + places + uj + u ≡ scale + d + (dj + ui) → Says (sx * 2 ^ places) sy
    → Says (a * 2 ^ scale * 2 ^ d) (b * 2 ^ u)
quotient_carries Says sx sy a b places ui uj di dj scale u d times cancel hx hy e h =
    let p : 2 ^ di * 2 ^ places * 2 ^ uj * 2 ^ u ≡ 2 ^ scale * 2 ^ d * (2 ^ dj * 2 ^ ui) =
    sym (pow4 di places uj u) ∙ ap (λ (x : ℕ). 2 ^ x) e ∙ pow22 scale d dj ui in
    let s : Says (sx * 2 ^ places * (2 ^ ui * 2 ^ uj * 2 ^ u)) (sy * (2 ^ ui * 2 ^ uj * 2 ^ u)) =
    times (sx * 2 ^ places) sy (2 ^ ui * 2 ^ uj * 2 ^ u) (mul-pos (mul-pos (pow_pos ui) (pow_pos uj)) (pow_pos u)) h in
    let l₁ : sx * 2 ^ places * (2 ^ ui * 2 ^ uj * 2 ^ u) ≡ sx * 2 ^ ui * (2 ^ places * 2 ^ uj * 2 ^ u) = omega arith in
    let l₂ : sx * 2 ^ ui * (2 ^ places * 2 ^ uj * 2 ^ u) ≡ a * 2 ^ di * (2 ^ places * 2 ^ uj * 2 ^ u) =
    ap (λ (x : ℕ). x * (2 ^ places * 2 ^ uj * 2 ^ u)) (sym hx) in
    let l₃ : a * 2 ^ di * (2 ^ places * 2 ^ uj * 2 ^ u) ≡ a * (2 ^ di * 2 ^ places * 2 ^ uj * 2 ^ u) = omega arith in
    let l₄ : a * (2 ^ di * 2 ^ places * 2 ^ uj * 2 ^ u) ≡ a * (2 ^ scale * 2 ^ d * (2 ^ dj * 2 ^ ui)) =
    ap (λ (x : ℕ). a * x) p in
    let l₅ : a * (2 ^ scale * 2 ^ d * (2 ^ dj * 2 ^ ui)) ≡ a * 2 ^ scale * 2 ^ d * (2 ^ dj * 2 ^ ui) = omega arith in
    let r₁ : sy * (2 ^ ui * 2 ^ uj * 2 ^ u) ≡ sy * 2 ^ uj * (2 ^ ui * 2 ^ u) = omega arith in
    let r₂ : sy * 2 ^ uj * (2 ^ ui * 2 ^ u) ≡ b * 2 ^ dj * (2 ^ ui * 2 ^ u) =
    ap (λ (x : ℕ). x * (2 ^ ui * 2 ^ u)) (sym hy) in
    let r₃ : b * 2 ^ dj * (2 ^ ui * 2 ^ u) ≡ b * 2 ^ u * (2 ^ dj * 2 ^ ui) = omega arith in
    let t : Says (a * 2 ^ scale * 2 ^ d * (2 ^ dj * 2 ^ ui)) (b * 2 ^ u * (2 ^ dj * 2 ^ ui)) =
    subst (λ (x : ℕ). Says x (b * 2 ^ u * (2 ^ dj * 2 ^ ui))) (l₁ ∙ l₂ ∙ l₃ ∙ l₄ ∙ l₅)
    (subst (λ (x : ℕ). Says (sx * 2 ^ places * (2 ^ ui * 2 ^ uj * 2 ^ u)) x) (r₁ ∙ r₂ ∙ r₃) s) in
    cancel (a * 2 ^ scale * 2 ^ d) (b * 2 ^ u) (2 ^ dj * 2 ^ ui) (mul-pos (pow_pos dj) (pow_pos ui)) t

-- a quotient with more places than the precision has all the digits of the format
pub quotient_full : (q n d precision places : ℕ) → 0 < d → 2 ^ (precision - 1) ≤ n → d < 2 ^ precision
    → 0 < precision → precision ≤ places → q ≡ n * 2 ^ places / d → 2 ^ (precision - 1) ≤ q
quotient_full q n d precision places p f l s g e =
    let a : 2 ^ (precision - 1) * 2 ^ places ≤ n * 2 ^ places = mul-le-mul_right (2 ^ places) f in
    let b : 2 ^ precision ≤ 2 ^ places = pow-le-pow_right two_pos g in
    let l' : d ≤ 2 ^ places = omega arith in
    let k : 2 ^ (precision - 1) * d ≤ 2 ^ (precision - 1) * 2 ^ places = mul-le-mul_left (2 ^ (precision - 1)) l' in
    subst (λ (x : ℕ). 2 ^ (precision - 1) ≤ x) (sym e) ((le-div_iff_mul-le p).1 (omega arith))
