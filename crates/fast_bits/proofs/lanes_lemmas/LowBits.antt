-- The lowest bit of a number, set.
use Rattle.std.proofs.Common.{◌≡◌, ℕ, ◌+◌, ◌-◌, ◌*◌, ◌/◌, ◌%◌, ◌^◌, ◌<◌, ◌≤◌, Bool, true, false, cond, not, eqb, sym}
use Rattle.std.proofs.Common.{ap, ◌∙◌, ⊎_elim, lit<, arith}
use Rattle.std.proofs.lemmas.Nat.{div-add-mod', mod_below, or_block}
use Rattle.std.proofs.lemmas.Bool.{cases_eq, cases_lt, eq-eqb, ne_eqb}
use Rattle.std.specs.Int.{RustNames.bit_or, Bits.or_zero_r}
use Rattle.apfloat_model.specs.rounding.RoundingToOdd.{odd_for_rest}

-- the bits above the lowest one are kept
halves : (q bit : ℕ) → bit < 2 → bit_or q bit ≡ bit_or (q / 2) 0 * 2 + bit_or (q % 2) bit
halves q bit low =
    let parts : q / 2 * 2 + q % 2 ≡ q = div-add-mod' q 2 in
    let none : 0 * 2 ^ 1 + bit ≡ bit = omega arith in
    let rest : q % 2 < 2 = mod_below q 2 (lit< tt) in
    (λ i. bit_or (sym parts i) (sym none i)) ∙ or_block 1 (q / 2) 0 (q % 2) bit rest low

or_one : (q : ℕ) → bit_or q 1 ≡ q + 1 - q % 2
or_one q =
    let parts : q / 2 * 2 + q % 2 ≡ q = div-add-mod' q 2 in
    let split = halves q 1 (lit< tt) in
    let upper : bit_or (q / 2) 0 * 2 ≡ q / 2 * 2 = ap (λ (n : ℕ). n * 2) (or_zero_r (q / 2)) in
    let rest : q % 2 < 2 = mod_below q 2 (lit< tt) in
    ⊎_elim {C = bit_or q 1 ≡ q + 1 - q % 2}
    (λ (even : q % 2 < 1).
    let zero : q % 2 ≡ 0 = omega (arith, even) in
    let lower : bit_or (q % 2) 1 ≡ 1 = ap (λ (n : ℕ). bit_or n 1) zero in
    omega (arith, split, upper, lower, parts, zero))
    (λ (odd : 1 ≤ q % 2).
    let one : q % 2 ≡ 1 = omega (arith, odd, rest) in
    let lower : bit_or (q % 2) 1 ≡ 1 = ap (λ (n : ℕ). bit_or n 1) one in
    omega (arith, split, upper, lower, parts, one))
    (cases_lt (q % 2) 1)

by_rest : (q : ℕ) (none : Bool) → bit_or q (cond (not none) 1 0) ≡ cond none q (q + 1 - q % 2)
by_rest q true = or_zero_r q
by_rest q false = or_one q

-- a quotient rounded to odd
pub or_bit : (q r : ℕ) → bit_or q (cond (not (eqb r 0)) 1 0) ≡ odd_for_rest q r
or_bit q r = by_rest q (eqb r 0)

-- 1 for a nonzero rest, without a comparison
pub one_for : (r : ℕ) → r < 2 ^ 16 → (r + 65535) / 65536 ≡ cond (not (eqb r 0)) 1 0
one_for r below =
    ⊎_elim {C = (r + 65535) / 65536 ≡ cond (not (eqb r 0)) 1 0}
    (λ (z : r ≡ 0).
    let e : (r + 65535) / 65536 ≡ 0 = omega (arith, z) in
    e ∙ sym (ap (λ (b : Bool). cond (not b) 1 0) (eq-eqb r 0 z)))
    (λ (n : r ≡ 0 → ⊥).
    let e : (r + 65535) / 65536 ≡ 1 = omega (arith, below, n) in
    e ∙ sym (ap (λ (b : Bool). cond (not b) 1 0) (ne_eqb r 0 n)))
    (cases_eq r 0)
