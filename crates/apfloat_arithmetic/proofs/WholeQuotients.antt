-- An integral quotient, computed by subtracting one multiple of the divisor at a time.
use Rattle.std.proofs.Common.{◌≡◌, ℕ, false, eqb, ◌+◌, ◌-◌, ◌*◌, ◌/◌, ◌%◌, ◌^◌, ◌<◌, ◌≤◌, count_ones, sym, ap, ◌∙◌}
use Rattle.std.proofs.{Common.subst, Common.arith, Common.lit<, Math.Nat.mul-le-mul_right}
use Rattle.std.proofs.Math.Nat.{mul-le-mul_left, mul-lt-mul_of_pos_right, pow-le-pow_right, div-lt_iff_lt-mul}
use Rattle.std.proofs.Math.Nat.{mod-eq_of_lt, div-eq_of_lt, mul-pos, add-mul-div_right, add-mul-mod_self_right}
use Rattle.std.proofs.lemmas.Nat.{pow-add, pow_pos, ones_cat, ones-le}
use Rattle.apfloat_arithmetic.specs.declared.remainders.Magnitude.{Magnitude}
use Rattle.apfloat_arithmetic.specs.Magnitudes.{AreDivided, units_of}
use Rattle.apfloat_model.proofs.general.Powers.{twice_power, two_pos, twice_half}
use lib.Count.{ones, ones_in}

-- an iteration: r minus 2 ^ k times the divisor d is s, which is below that multiple
pub record IsTurn (d r s k : ℕ) : Type 0 where
  pub taken : r ≡ s + 2 ^ k * d
  pub below : s < 2 ^ k * d

-- an iteration leaves the remainder unchanged
pub turn_rest : (d r s k : ℕ) → IsTurn d r s k → r % d ≡ s % d
turn_rest d r s k t = ap (λ (x : ℕ). x % d) t.taken ∙ add-mul-mod_self_right s (2 ^ k) d

-- an iteration takes its power of two off the quotient
pub turn_quotient : (d r s k : ℕ) → 0 < d → IsTurn d r s k → r / d ≡ s / d + 2 ^ k
turn_quotient d r s k p t = ap (λ (x : ℕ). x / d) t.taken ∙ add-mul-div_right s (2 ^ k) p

-- the quotient after an iteration is below its power of two
pub turn_small : (d r s k : ℕ) → 0 < d → IsTurn d r s k → s / d < 2 ^ k
turn_small d r s k p t = (div-lt_iff_lt-mul p).1 t.below

-- an iteration takes one binary one off the quotient
pub turn_ones : (d r s k : ℕ) → 0 < d → IsTurn d r s k → count_ones (r / d) ≡ 1 + count_ones (s / d)
unfolding ones ones_in
turn_ones d r s k p t =
    let q = turn_quotient d r s k p t in
    let l = turn_small d r s k p t in
    let e : r / d ≡ 1 * 2 ^ k + s / d = omega arith in
    ap count_ones e ∙ ones_cat k 1 (s / d) l

-- one subtraction of significands at their places is an iteration
pub is_turn : (r p t q s b : ℕ) → (s + t) * 2 ^ b ≡ r * 2 ^ p → s < t → q ≤ b
    → IsTurn (t * 2 ^ q) (r * 2 ^ p) (s * 2 ^ b) (b - q)
is_turn r p t q s b e l g =
    let w : b ≡ (b - q) + q = omega arith in
    let a : 2 ^ b ≡ 2 ^ (b - q) * 2 ^ q = ap (λ (x : ℕ). 2 ^ x) w ∙ pow-add 2 (b - q) q in
    let c : t * 2 ^ b ≡ t * (2 ^ (b - q) * 2 ^ q) = ap (λ (x : ℕ). t * x) a in
    let m : s * 2 ^ b < t * 2 ^ b = mul-lt-mul_of_pos_right l (pow_pos b) in
    record { taken = omega arith; below = omega arith }

-- a significand at a place below the divisor's is less than it
pub below_divisor : (precision r p t q : ℕ) → 0 < precision → r < 2 ^ precision → 2 ^ (precision - 1) ≤ t → p < q
    → r * 2 ^ p < t * 2 ^ q
below_divisor precision r p t q z f l g =
    let h : p + 1 ≤ q = omega arith in
    let a : r * 2 ^ p < 2 ^ precision * 2 ^ p = mul-lt-mul_of_pos_right f (pow_pos p) in
    let b : 2 ^ precision ≡ 2 * 2 ^ (precision - 1) = sym (twice_half precision z) in
    let b' : 2 ^ precision * 2 ^ p ≡ 2 * 2 ^ (precision - 1) * 2 ^ p = ap (λ (x : ℕ). x * 2 ^ p) b in
    let c : 2 ^ (p + 1) ≡ 2 * 2 ^ p = twice_power p in
    let c' : 2 ^ (precision - 1) * 2 ^ (p + 1) ≡ 2 ^ (precision - 1) * (2 * 2 ^ p) =
    ap (λ (x : ℕ). 2 ^ (precision - 1) * x) c in
    let d : 2 ^ (p + 1) ≤ 2 ^ q = pow-le-pow_right two_pos h in
    let e : 2 ^ (precision - 1) * 2 ^ (p + 1) ≤ 2 ^ (precision - 1) * 2 ^ q = mul-le-mul_left (2 ^ (precision - 1)) d in
    let k : 2 ^ (precision - 1) * 2 ^ q ≤ t * 2 ^ q = mul-le-mul_right (2 ^ q) l in
    omega arith

-- a number at a place below the divisor's is less than it
pub is_less : (precision : ℕ) (x y : Magnitude) → AreDivided precision x y → x.place < y.place → units_of x < units_of y
is_less precision x y h l =
    below_divisor precision x.significand x.place y.significand y.place h.some h.dividend.fits h.divisor.full l

-- the number of ones of the integral quotient is at most that of its digits
pub few_digits : (precision r p t q : ℕ) → 0 < precision → r < 2 ^ precision → 2 ^ (precision - 1) ≤ t → q ≤ p
    → count_ones (r * 2 ^ p / (t * 2 ^ q)) ≤ p + 1 - q
few_digits precision r p t q z f l g =
    let h : 0 < 2 ^ (precision - 1) = pow_pos (precision - 1) in
    let u : 0 < t = omega arith in
    let d : 0 < t * 2 ^ q = mul-pos u (pow_pos q) in
    let i : p < p + 1 = omega arith in
    let a : r * 2 ^ p < t * 2 ^ (p + 1) = below_divisor precision r p t (p + 1) z f l i in
    let w : p + 1 ≡ (p + 1 - q) + q = omega arith in
    let b : 2 ^ (p + 1) ≡ 2 ^ (p + 1 - q) * 2 ^ q = ap (λ (x : ℕ). 2 ^ x) w ∙ pow-add 2 (p + 1 - q) q in
    let c : t * 2 ^ (p + 1) ≡ t * (2 ^ (p + 1 - q) * 2 ^ q) = ap (λ (x : ℕ). t * x) b in
    ones-le (p + 1 - q) (r * 2 ^ p / (t * 2 ^ q)) ((div-lt_iff_lt-mul d).1 (omega arith))

-- a significand moved up by j digits, at a place lower by j, is the same number
pub moved_up : (s j p : ℕ) → j ≤ p → s * 2 ^ j * 2 ^ (p - j) ≡ s * 2 ^ p
moved_up s j p l =
    let w : j + (p - j) ≡ p = omega arith in
    let e : 2 ^ j * 2 ^ (p - j) ≡ 2 ^ p = sym (pow-add 2 j (p - j)) ∙ ap (λ (x : ℕ). 2 ^ x) w in
    let f : s * (2 ^ j * 2 ^ (p - j)) ≡ s * 2 ^ p = ap (λ (x : ℕ). s * x) e in
    omega arith

-- a number at a place, counted from a lower place
pub at_lower_place : (s p q : ℕ) → q ≤ p → s * 2 ^ p ≡ s * 2 ^ (p - q) * 2 ^ q
at_lower_place s p q l =
    let w : p ≡ (p - q) + q = omega arith in
    let e : 2 ^ p ≡ 2 ^ (p - q) * 2 ^ q = ap (λ (x : ℕ). 2 ^ x) w ∙ pow-add 2 (p - q) q in
    let f : s * 2 ^ p ≡ s * (2 ^ (p - q) * 2 ^ q) = ap (λ (x : ℕ). s * x) e in
    omega arith

-- twice the significand less the divisor, one place lower, plus the divisor there, is the number before
pub one_lower : (r t p : ℕ) → 0 < p → t ≤ 2 * r → (2 * r - t + t) * 2 ^ (p - 1) ≡ r * 2 ^ p
one_lower r t p z l =
    let e : 2 ^ p ≡ 2 * 2 ^ (p - 1) = sym (twice_half p z) in
    let f : r * 2 ^ p ≡ r * (2 * 2 ^ (p - 1)) = ap (λ (x : ℕ). r * x) e in
    let g : 2 * r - t + t ≡ 2 * r = omega arith in
    let h : (2 * r - t + t) * 2 ^ (p - 1) ≡ 2 * r * 2 ^ (p - 1) = ap (λ (x : ℕ). x * 2 ^ (p - 1)) g in
    omega arith

-- an iteration makes the rest less
pub turn_less : (d r s k : ℕ) → 0 < d → IsTurn d r s k → s < r
turn_less d r s k p t =
    let a = t.taken in
    let m : 0 < 2 ^ k * d = mul-pos (pow_pos k) p in
    omega arith

-- ---- a rest below the divisor

-- a rest below the divisor is the remainder
pub left_all : (d r : ℕ) → r < d → r ≡ r % d
left_all d r l = sym (mod-eq_of_lt l)

-- the quotient of a rest below the divisor has no ones
pub none_set : (d r : ℕ) → r < d → 0 ≡ count_ones (r / d)
none_set d r l =
    let e : count_ones (r / d) ≡ count_ones 0 = ap count_ones (div-eq_of_lt l) in
    let z : count_ones 0 ≤ 0 = ones-le 0 0 (lit< tt) in
    omega arith

-- the quotient of a rest below the divisor is not odd
pub not_odd : (d r : ℕ) → r < d → false ≡ eqb (r / d % 2) 1
not_odd d r l = sym (ap (λ (q : ℕ). eqb (q % 2) 1) (div-eq_of_lt l))

-- of two significands at the same place, the lesser is the lesser number
pub at_place : (r t p q : ℕ) → r < t → p ≡ q → r * 2 ^ p < t * 2 ^ q
at_place r t p q l e = subst (λ (x : ℕ). r * 2 ^ p < t * 2 ^ x) e (mul-lt-mul_of_pos_right l (pow_pos p))

-- a divisor with all its digits is above 0
pub divisor_pos : (precision t q : ℕ) → 2 ^ (precision - 1) ≤ t → 0 < t * 2 ^ q
divisor_pos precision t q l =
    let h : 0 < 2 ^ (precision - 1) = pow_pos (precision - 1) in
    let u : 0 < t = omega arith in
    mul-pos u (pow_pos q)

-- an iteration with the power 2 ^ k is the last one if k is 0
pub last_turn : (d r s k : ℕ) → k ≡ 0 → IsTurn d r s k → IsTurn d r s 0
last_turn d r s k e t = subst (λ (x : ℕ). IsTurn d r s x) e t

-- after the last iteration the rest is below the divisor
pub last_below : (d r s : ℕ) → IsTurn d r s 0 → s < d
last_below d r s t = let b = t.below in omega arith
