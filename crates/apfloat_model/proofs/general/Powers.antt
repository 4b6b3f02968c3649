-- Powers of two: products of them, and their exponents.
use Rattle.std.proofs.Common.{◌≡◌, ℕ, zero, suc, ◌+◌, ◌-◌, ◌*◌, ◌%◌, ◌^◌, ◌<◌, ◌≤◌, refl, sym, ap, ◌∙◌, ⊎_elim, arith}
use Rattle.std.proofs.Common.{lit<}
use Rattle.std.proofs.Math.Nat.{pow-le-pow_right, two-pow-succ, mul-pos, mul-le-mul_left, mul-le-mul_right}
use Rattle.std.proofs.lemmas.{Nat.pow-add, Nat.pow_pos, Bool.cases_lt}
use lib.Pow.{mod-mod-pow}

-- the base is above 0
pub two_pos : 0 < 2
two_pos = lit< tt

-- 2 to the power of a sum is a product of powers: of three, of two pairs, and of four
pub pow3 : (a b c : ℕ) → 2 ^ (a + b + c) ≡ 2 ^ a * 2 ^ b * 2 ^ c
pow3 a b c = pow-add 2 (a + b) c ∙ ap (λ (x : ℕ). x * 2 ^ c) (pow-add 2 a b)

pub pow22 : (a b c d : ℕ) → 2 ^ (a + b + (c + d)) ≡ 2 ^ a * 2 ^ b * (2 ^ c * 2 ^ d)
pow22 a b c d = pow-add 2 (a + b) (c + d) ∙ ap (λ (x : ℕ). x * 2 ^ (c + d)) (pow-add 2 a b) ∙
    ap (λ (x : ℕ). 2 ^ a * 2 ^ b * x) (pow-add 2 c d)

pub pow4 : (a b c d : ℕ) → 2 ^ (a + b + c + d) ≡ 2 ^ a * 2 ^ b * 2 ^ c * 2 ^ d
pow4 a b c d = pow-add 2 (a + b + c) d ∙ ap (λ (x : ℕ). x * 2 ^ d) (pow3 a b c)

-- the next power of 2 is twice this one
pub twice_power : (n : ℕ) → 2 ^ (n + 1) ≡ 2 * 2 ^ n
twice_power n = let e : 2 ^ (n + 1) ≡ 2 ^ n * 2 = pow-add 2 n 1 in omega arith

-- a lower power of two is at most half of a higher one
pub half_at_most : (a b : ℕ) → a < b → 2 * 2 ^ a ≤ 2 ^ b
half_at_most a b h =
    let k : 2 ^ (a + 1) ≤ 2 ^ b = pow-le-pow_right two_pos (omega arith) in
    let t : 2 ^ (a + 1) ≡ 2 * 2 ^ a = twice_power a in
    omega arith

-- a power that is no greater has no greater exponent
pub exponent_at_most : (a b : ℕ) → 2 ^ a ≤ 2 ^ b → a ≤ b
exponent_at_most a b h =
    ⊎_elim (λ (c : b < a). absurd (omega (arith, h, half_at_most b a c, pow_pos b))) (λ (c : a ≤ b). c) (cases_lt b a)

-- a lesser power has a lesser exponent
pub exponent_below : (a b : ℕ) → 2 ^ a < 2 ^ b → a < b
exponent_below a b h =
    ⊎_elim
    (λ (c : a < b). c)
    (λ (c : b ≤ a). let k : 2 ^ b ≤ 2 ^ a = pow-le-pow_right two_pos c in absurd (omega arith))
    (cases_lt a b)

-- a number of few digits is below each greater power too
pub fits_longer : (n digits more : ℕ) → n < 2 ^ digits → digits ≤ more → n < 2 ^ more
fits_longer n digits more fits h =
    let k : 2 ^ digits ≤ 2 ^ more = pow-le-pow_right two_pos h in omega (arith, fits, k)

-- a number that is not 0 has digits
pub some_digits : (n digits : ℕ) → 0 < n → n < 2 ^ digits → 0 < digits
some_digits n zero some fits = absurd (omega (arith, some, fits))
some_digits n (suc digits) some fits = omega arith

-- n is below 2 ^ n
pub below_power : (n : ℕ) → n < 2 ^ n
below_power zero = omega arith
below_power (suc n) = omega (arith, below_power n, two-pow-succ n)

-- twice half a power of two is that power
pub twice_half : (places : ℕ) → 0 < places → 2 * 2 ^ (places - 1) ≡ 2 ^ places
twice_half places h =
    let e : (places - 1) + 1 ≡ places = omega arith in
    let w : 2 ^ ((places - 1) + 1) ≡ 2 ^ (places - 1) * 2 = pow-add 2 (places - 1) 1 in
    let v : 2 ^ ((places - 1) + 1) ≡ 2 ^ places = ap (λ (x : ℕ). 2 ^ x) e in
    omega arith

-- half the power of three digits or more is at least 4
pub four : (precision : ℕ) → 3 ≤ precision → 4 ≤ 2 ^ (precision - 1)
four precision h =
    let l : 2 ≤ precision - 1 = omega arith in
    pow-le-pow_right two_pos l

-- if a number is at least 2 ^ a and below 2 ^ (b + 1), a is at most b
pub exponent_between : (n a b : ℕ) → 2 ^ a ≤ n → n < 2 ^ (b + 1) → a ≤ b
exponent_between n a b l h = let e = exponent_below a (b + 1) (omega arith) in omega arith

-- a product of two significands has at least twice the digits of one, less 1
pub product_full : (precision m n : ℕ) → 0 < precision → 2 ^ (precision - 1) ≤ m → 2 ^ (precision - 1) ≤ n
    → 2 ^ (2 * precision - 1) ≤ 2 * (m * n)
product_full precision m n some left right =
    let digits : 2 * precision - 1 ≡ 1 + (precision - 1) + (precision - 1) = omega (arith, some) in
    let low : 2 ^ (precision - 1) * 2 ^ (precision - 1) ≤ 2 ^ (precision - 1) * n =
    mul-le-mul_left (2 ^ (precision - 1)) right in
    omega (arith, ap (λ (x : ℕ). 2 ^ x) digits ∙ pow3 1 (precision - 1) (precision - 1), low, mul-le-mul_right n left)

-- the left factor of a product above 0 is above 0
pub left_factor : (n k : ℕ) → 0 < n * k → 0 < n
left_factor zero k h = absurd (omega (arith, h))
left_factor (suc n) k h = omega arith

-- if a positive number times a power of two equals n times a power of two, n is positive
pub both_above_zero : (m n p q : ℕ) → n * 2 ^ p ≡ m * 2 ^ q → 0 < m → 0 < n
both_above_zero m zero p q e l =
    let a : 0 < m * 2 ^ q = mul-pos l (pow_pos q) in
    absurd (omega arith)
both_above_zero m (suc n) p q e l = omega arith

-- if n times a power of two is 0, n is 0
pub both_zero : (n p q : ℕ) → n * 2 ^ p ≡ 0 * 2 ^ q → n ≡ 0
both_zero zero p q e = refl
both_zero (suc n) p q e = absurd (omega (arith, both_above_zero (suc n) 0 q p (sym e) (omega arith)))

-- the lowest digits of a number are those of more of its lowest digits
pub lower_mod : (n more digits : ℕ) → digits ≤ more → n % 2 ^ more % 2 ^ digits ≡ n % 2 ^ digits
lower_mod n more digits h =
    let e : more ≡ (more - digits) + digits = omega arith in
    ap (λ (i : ℕ). n % 2 ^ i % 2 ^ digits) e ∙ mod-mod-pow n (more - digits) digits
