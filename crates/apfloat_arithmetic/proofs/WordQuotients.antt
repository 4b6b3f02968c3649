-- Quotients of significands that fit in a word; the dividend is at least the divisor, and below twice the divisor.
use Rattle.std.proofs.Common.{◌≡◌, ℕ, ◌+◌, ◌-◌, ◌*◌, ◌/◌, ◌%◌, ◌^◌, ◌<◌, ◌≤◌, ap, ⊎_elim, arith}
use Rattle.std.proofs.Math.Nat.{mod-eq_of_lt, pow-le-pow_right, mul-le-mul_right, mul-lt-mul_of_pos_right}
use Rattle.std.proofs.Math.Nat.{le-div_iff_mul-le, div-lt_iff_lt-mul}
use Rattle.std.proofs.lemmas.{Nat.pow-add, Nat.pow_pos, Bool.cases_lt}
use Rattle.apfloat_model.specs.rounding.RoundingToOdd.{odd_quotient}
use Rattle.apfloat_model.proofs.general.Powers.{two_pos, twice_half, twice_power}
use Rattle.apfloat_model.proofs.rounding.OddRoundings.{odd_at_least, odd_at_most}

-- a dividend that is moved up if it is less than the divisor
pub record IsClose (m n precision up : ℕ) : Type 0 where
  pub some : 0 < precision
  pub dividend_fits : m < 2 ^ precision
  pub dividend_full : 2 ^ (precision - 1) ≤ m
  pub divisor_fits : n < 2 ^ precision
  pub divisor_full : 2 ^ (precision - 1) ≤ n
  pub less : m < n → up ≡ 1
  pub close : n ≤ m → up ≡ 0

pub moved_close : (m n precision up : ℕ) → IsClose m n precision up → (n ≤ m * 2 ^ up) × (m * 2 ^ up < 2 * n)
moved_close m n precision up i =
    let t : 2 * 2 ^ (precision - 1) ≡ 2 ^ precision = twice_half precision i.some in
    ⊎_elim
    (λ (l : m < n).
    let k : m * 2 ^ up ≡ m * 2 ^ 1 = ap (λ (x : ℕ). m * 2 ^ x) (i.less l) in
    let a = i.divisor_fits in
    let b = i.dividend_full in
    (omega (arith, k, t, a, b), omega (arith, k)))
    (λ (l : n ≤ m).
    let k : m * 2 ^ up ≡ m * 2 ^ 0 = ap (λ (x : ℕ). m * 2 ^ x) (i.close l) in
    let a = i.dividend_fits in
    let b = i.divisor_full in
    (omega (arith, k), omega (arith, k, t, a, b)))
    (cases_lt m n)

-- a dividend moved up in this way fits in a word
pub moved_fits : (m n precision up : ℕ) → precision ≤ 59 → IsClose m n precision up → m * 2 ^ up % 2 ^ 64 ≡ m * 2 ^ up
moved_fits m n precision up s i =
    let c = moved_close m n precision up i in
    let f = i.divisor_fits in
    let w : 2 ^ precision ≤ 2 ^ 59 = pow-le-pow_right two_pos s in
    mod-eq_of_lt (omega (arith, c.1, f, w))

pub in_word : (n precision : ℕ) → precision ≤ 59 → n < 2 ^ precision → n < 2 ^ 64
in_word n precision short fits =
    let w : 2 ^ precision ≤ 2 ^ 59 = pow-le-pow_right two_pos short in
    omega (arith, w, fits)

-- moving up twice is moving up by the sum of the places
pub moved_places : (m up places : ℕ) → m * 2 ^ up * 2 ^ places ≡ m * 2 ^ (places + up)
moved_places m up places =
    let e : 2 ^ (places + up) ≡ 2 ^ places * 2 ^ up = pow-add 2 places up in
    let d : m * 2 ^ (places + up) ≡ m * (2 ^ places * 2 ^ up) = ap (λ (x : ℕ). m * x) e in
    omega (arith, d)

-- the integral quotient has one more digit than there are places
pub quotient_long : (n d places : ℕ) → 0 < d → d ≤ n → 2 ^ places ≤ n * 2 ^ places / d
quotient_long n d places p l =
    let a : d * 2 ^ places ≤ n * 2 ^ places = mul-le-mul_right (2 ^ places) l in
    (le-div_iff_mul-le p).1 (omega (arith, a))

-- the quotient rounded to odd has one more digit than there are places
pub odd_quotient_long : (s n d places : ℕ) → 0 < d → d ≤ n → s ≡ odd_quotient (n * 2 ^ places) d → 2 ^ places ≤ s
odd_quotient_long s n d places p l e =
    let a = quotient_long n d places p l in
    let b = odd_at_least (n * 2 ^ places / d) (n * 2 ^ places % d) in
    omega (arith, a, b, e)

pub odd_quotient_fits : (s n d places : ℕ) → 0 < d → n < 2 * d → s ≡ odd_quotient (n * 2 ^ places) d
    → s < 2 ^ (places + 1)
odd_quotient_fits s n d places p l e =
    let a : n * 2 ^ places < 2 * d * 2 ^ places = mul-lt-mul_of_pos_right l (pow_pos places) in
    let b : n * 2 ^ places / d < 2 * 2 ^ places = (div-lt_iff_lt-mul p).1 (omega (arith, a)) in
    let c = odd_at_most (n * 2 ^ places / d) (n * 2 ^ places % d) in
    let t : 2 ^ (places + 1) ≡ 2 * 2 ^ places = twice_power places in
    omega (arith, b, c, t, e)
