-- A factor of a power of two is a power of two.
use Rattle.std.proofs.Common.{refl, sym, ap, ◌∙◌, ◌≡◌, ℕ, zero, suc, ◌+◌, ◌-◌, ◌*◌, ◌/◌, ◌%◌, ◌^◌, ◌<◌, ◌≤◌, ◌⊎◌, inl}
use Rattle.std.proofs.Common.{inr, ⊎_elim, arith}
use Rattle.std.proofs.{Math.Nat.div-add-mod', Math.Nat.mod-lt, Math.Nat.pow-le-pow_right, lemmas.Bool.cases_lt}
use Rattle.apfloat_model.proofs.general.Powers.{twice_power, two_pos}

pub record IsPowerFactor (n : ℕ) : Type 0 where
  pub place : ℕ
  pub is : n ≡ 2 ^ place

pub record IsHalved (n : ℕ) : Type 0 where
  pub half : ℕ
  pub is : (n ≡ 2 * half) ⊎ (n ≡ 2 * half + 1)

-- twice an integer plus a rest below 2 is an even or an odd number
halves : (n h r : ℕ) → r < 2 → h * 2 + r ≡ n → IsHalved n
halves n h zero l e = record { half = h; is = inl (omega arith) }
halves n h (suc zero) l e = record { half = h; is = inr (omega arith) }
halves n h (suc (suc r)) l e = absurd (omega arith)

-- each integer is even or odd
halved : (n : ℕ) → IsHalved n
halved n = halves n (n / 2) (n % 2) (mod-lt n two_pos) (div-add-mod' n 2)

-- a factor of 1 is 1
one_factor : (a b : ℕ) → a * b ≡ 1 → a ≡ 1
one_factor zero b e = absurd (omega arith)
one_factor (suc zero) b e = refl
one_factor (suc (suc a)) zero e = absurd (omega arith)
one_factor (suc (suc a)) (suc b) e = absurd (omega arith)

-- the product of two odd numbers is not even
odd_product : (a b p : ℕ) → (2 * a + 1) * (2 * b + 1) ≡ 2 * p → ⊥
odd_product a b p e = let f : 2 * (2 * (a * b) + a + b) + 1 ≡ 2 * p = omega arith in omega arith

-- a factor of a power of two is a power of two
pub factor_of_power : (k a b : ℕ) → a * b ≡ 2 ^ k → IsPowerFactor a
factor_of_power zero a b e = record { place = 0; is = one_factor a b e }
factor_of_power (suc k) a b e =
    let t : 2 ^ (k + 1) ≡ 2 * 2 ^ k = twice_power k in
    let u : a * b ≡ 2 * 2 ^ k = e ∙ ap (λ (n : ℕ). 2 ^ n) (omega arith) ∙ t in
    let x = halved a in
    let y = halved b in
    ⊎_elim
    (λ (p : a ≡ 2 * x.half).
    let q : 2 * x.half * b ≡ 2 * 2 ^ k = ap (λ (n : ℕ). n * b) (sym p) ∙ u in
    let r : x.half * b ≡ 2 ^ k = omega arith in
    let i = factor_of_power k x.half b r in
    record { place = i.place + 1; is = p ∙ ap (λ (n : ℕ). 2 * n) i.is ∙ sym (twice_power i.place) })
    (λ (p : a ≡ 2 * x.half + 1).
    ⊎_elim
    (λ (q : b ≡ 2 * y.half).
    let r : a * (2 * y.half) ≡ 2 * 2 ^ k = ap (λ (n : ℕ). a * n) (sym q) ∙ u in
    factor_of_power k a y.half (omega arith))
    (λ (q : b ≡ 2 * y.half + 1).
    let r : (2 * x.half + 1) * (2 * y.half + 1) ≡ 2 * 2 ^ k = ap (λ (n : ℕ). n * (2 * y.half + 1)) (sym p) ∙
    ap (λ (n : ℕ). a * n) (sym q) ∙ u in
    absurd (odd_product x.half y.half (2 ^ k) r))
    y.is)
    x.is

-- a power of two with exactly that many digits is the least number with that many digits
pub power_with_digits : (precision m : ℕ) → 0 < precision → 2 ^ (precision - 1) ≤ m → m < 2 ^ precision
    → IsPowerFactor m → m ≡ 2 ^ (precision - 1)
power_with_digits precision m p l h i =
    let e : m ≡ 2 ^ i.place = i.is in
    ⊎_elim
    (λ (c : i.place < precision).
    let a : i.place ≤ precision - 1 = omega arith in
    let b : 2 ^ i.place ≤ 2 ^ (precision - 1) = pow-le-pow_right two_pos a in
    omega arith)
    (λ (c : precision ≤ i.place).
    let b : 2 ^ precision ≤ 2 ^ i.place = pow-le-pow_right two_pos c in
    absurd (omega arith))
    (cases_lt i.place precision)
