use Rattle.std.proofs.Common.{◌≡◌, ℕ, ◌+◌, ◌-◌, ◌*◌, ◌/◌, ◌^◌, ◌≤◌, ap, ◌∙◌, arith}
use Rattle.std.proofs.Math.Nat.{eq_of_mul-eq-mul_right, div-eq_of_eq-mul_left}
use Rattle.std.proofs.lemmas.Nat.{pow-add, pow_pos}
use Rattle.apfloat_arithmetic.proofs.remainders.in_quanta.Goals as goal

-- a significand at a place not below the quantum, in quanta
lowered : (s p low n : ℕ) → low ≤ p → s * 2 ^ p ≡ n * 2 ^ low → s * 2 ^ (p - low) ≡ n
lowered s p low n l e =
    let w : p ≡ (p - low) + low = omega arith in
    let a : 2 ^ p ≡ 2 ^ (p - low) * 2 ^ low = ap (λ (x : ℕ). 2 ^ x) w ∙ pow-add 2 (p - low) low in
    let b : s * 2 ^ p ≡ s * (2 ^ (p - low) * 2 ^ low) = ap (λ (x : ℕ). s * x) a in
    eq_of_mul-eq-mul_right (2 ^ low) (pow_pos low) (s * 2 ^ (p - low)) n (omega arith)

-- an integral number of quanta has no digits below the quantum
cut_below : (s p low n : ℕ) → p ≤ low → s * 2 ^ p ≡ n * 2 ^ low → s / 2 ^ (low - p) * 1 ≡ n
cut_below s p low n l e =
    let w : low ≡ (low - p) + p = omega arith in
    let a : 2 ^ low ≡ 2 ^ (low - p) * 2 ^ p = ap (λ (x : ℕ). 2 ^ x) w ∙ pow-add 2 (low - p) p in
    let b : n * 2 ^ low ≡ n * (2 ^ (low - p) * 2 ^ p) = ap (λ (x : ℕ). n * x) a in
    let f : s ≡ n * 2 ^ (low - p) = eq_of_mul-eq-mul_right (2 ^ p) (pow_pos p) s (n * 2 ^ (low - p)) (omega arith) in
    let g : s / 2 ^ (low - p) ≡ n = div-eq_of_eq-mul_left (pow_pos (low - p)) f in
    omega arith

pub returns-then-magnitude-quantum-clause-same : goal.returns-then-magnitude-quantum-clause-same
returns-then-magnitude-quantum-clause-same c = λ n h.
    lowered c.moved_up_to-high.result.significand c.moved_up_to-high.result.place (c.args.precision - 1) n
    c.moved_up_to-high.ensures.least (c.moved_up_to-high.ensures.same ∙ h)

pub returns-else-magnitude-quantum-clause-same : goal.returns-else-magnitude-quantum-clause-same
returns-else-magnitude-quantum-clause-same c =
    λ n h. cut_below c.args.magnitude.significand c.args.magnitude.place (c.args.precision - 1) n (omega arith) h
