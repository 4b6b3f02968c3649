-- The number of ones of a quotient is at most that of its digits, which the exponents of the operands bound.
use Rattle.std.proofs.Common.{◌≡◌, ℕ, zero, suc, false, eqb, ◌+◌, ◌-◌, ◌*◌, ◌/◌, ◌^◌, ◌<◌, ◌≤◌, count_ones, ap, ◌∙◌}
use Rattle.std.proofs.Common.{⊎_elim, arith, lit<, ℤ, pos, ◌+ℤ◌, ◌-ℤ◌, ◌≤ℤ◌}
use Rattle.std.proofs.lemmas.{Int.ints, Bool.ne_eqb, Bool.cases_lt, Nat.pow-add, Nat.ones-le}
use Rattle.std.proofs.Math.Nat.{mul-le-mul_left, pow-le-pow_right, div-lt_iff_lt-mul, div-eq_of_lt}
use Rattle.apfloat_model.specs.formats.{Format.Format, Datum.Datum, Datum.finite, Datum.infinite, Datum.nan}
use Rattle.apfloat_model.specs.arithmetic.{Exponents.IsIlogb, Exponents.IsLogarithm, Remainders.ones_of_quotient}
use Rattle.apfloat_model.proofs.general.Powers.{two_pos}

-- a quotient below 1 has no ones
none : (m n : ℕ) → m < n → 0 < count_ones (m / n) → ⊥
none m n l p =
    let e : count_ones (m / n) ≡ count_ones 0 = ap count_ones (div-eq_of_lt l) in
    let z : count_ones 0 ≤ 0 = ones-le 0 0 (lit< tt) in
    omega arith

-- a quotient of numbers of at most p + 1 and at least q + 1 digits has at most p + 1 - q ones
few : (m n p q : ℕ) → 0 < n → m < 2 ^ (p + 1) → 2 ^ q ≤ n → q ≤ p → count_ones (m / n) ≤ p + 1 - q
few m n p q d f l g =
    let w : p + 1 ≡ (p + 1 - q) + q = omega arith in
    let a : 2 ^ (p + 1) ≡ 2 ^ (p + 1 - q) * 2 ^ q = ap (λ (x : ℕ). 2 ^ x) w ∙ pow-add 2 (p + 1 - q) q in
    let b : 2 ^ (p + 1 - q) * 2 ^ q ≤ 2 ^ (p + 1 - q) * n = mul-le-mul_left (2 ^ (p + 1 - q)) l in
    ones-le (p + 1 - q) (m / n) ((div-lt_iff_lt-mul d).1 (omega arith))

-- the number of ones of a quotient of two numbers, bounded by their logarithms
of_numbers : (format : Format) (m n : ℕ) (a b : ℤ) → 0 < n → IsLogarithm format m a → IsLogarithm format n b
    → 0 < count_ones (m / n) → pos (count_ones (m / n)) ≤ℤ ((a -ℤ b) +ℤ pos 1)
of_numbers format m n a b d h k p =
    ⊎_elim
    (λ (l : m < n). absurd (none m n l p))
    (λ (l : n ≤ m).
    let low = k.low in
    let high = h.high in
    let g : k.place ≤ h.place =
    ⊎_elim
    (λ (o : h.place < k.place).
    let w : 2 ^ (h.place + 1) ≤ 2 ^ k.place = pow-le-pow_right two_pos (omega arith) in
    absurd (omega arith))
    (λ (o : k.place ≤ h.place). o)
    (cases_lt h.place k.place) in
    let c : count_ones (m / n) ≤ h.place + 1 - k.place = few m n h.place k.place d high low g in
    let x = h.is in
    let y = k.is in
    omega (arith, ints))
    (cases_lt m n)

-- the number of ones of a quotient is at most one more than the difference of the operands' exponents
pub few_steps : (format : Format) (x y : Datum) (a b : ℤ) → IsIlogb format x a → IsIlogb format y b
    → 0 < ones_of_quotient x y → pos (ones_of_quotient x y) ≤ℤ ((a -ℤ b) +ℤ pos 1)
few_steps format (finite s zero) (finite t zero) a b h k p = absurd (omega (arith, p))
few_steps format (finite s zero) (finite t (suc n)) a b h k p =
    let e : eqb (suc n) 0 ≡ false = ne_eqb (suc n) 0 (λ z. absurd (omega (arith, z))) in
    absurd (none 0 (suc n) (omega arith) (rw e at p))
few_steps format (finite s (suc m)) (finite t zero) a b h k p = absurd (omega (arith, p))
few_steps format (finite s (suc m)) (finite t (suc n)) a b h k p =
    let d : eqb (suc m) 0 ≡ false = ne_eqb (suc m) 0 (λ z. absurd (omega (arith, z))) in
    let e : eqb (suc n) 0 ≡ false = ne_eqb (suc n) 0 (λ z. absurd (omega (arith, z))) in
    rw e (of_numbers format (suc m) (suc n) a b (omega arith) (rw d at h) (rw e at k) (rw e at p))
few_steps format (finite s m) (infinite t) a b h k p = absurd (omega (arith, p))
few_steps format (finite s m) (nan t u) a b h k p = absurd (omega (arith, p))
few_steps format (infinite s) y a b h k p = absurd (omega (arith, p))
few_steps format (nan s u) y a b h k p = absurd (omega (arith, p))
