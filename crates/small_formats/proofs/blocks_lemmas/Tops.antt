-- Numbers with all digits set.
use Rattle.std.proofs.Common.{◌≡◌, ℕ, ◌+◌, ◌-◌, ◌*◌, ◌^◌, ◌<◌, ◌≤◌, ap, ◌∙◌}
use Rattle.std.proofs.{Common.⊎_elim, Common.arith, Math.Nat.mul-le-mul_right, Math.Nat.mul-le-mul_left}
use Rattle.std.proofs.{Math.Nat.pow-le-pow_right, lemmas.Bool.cases_lt, lemmas.Nat.pow-add, lemmas.Nat.pow_pos}
use Rattle.apfloat_model.proofs.general.Powers.{two_pos}

-- (2 ^ p - 1) * 2 ^ s is at most (2 ^ P - 1) * 2 ^ S if it has no more digits and ends no higher
pub top_below : (p s P S : ℕ) → p ≤ P → p + s ≤ P + S → (2 ^ p - 1) * 2 ^ s ≤ (2 ^ P - 1) * 2 ^ S
top_below p s P S few room =
    ⊎_elim
    (λ (l : S < s).
    let j : ℕ = s - S in
    let e : 2 ^ s ≡ 2 ^ j * 2 ^ S = let k : s ≡ j + S = omega (arith, l) in
    ap (λ (n : ℕ). 2 ^ n) k ∙ pow-add 2 j S in
    let one : 1 ≤ 2 ^ j = pow_pos j in
    let q : 1 ≤ 2 ^ p = pow_pos p in
    let whole : 2 ^ (p + j) ≡ 2 ^ p * 2 ^ j = pow-add 2 p j in
    let most : 2 ^ (p + j) ≤ 2 ^ P = pow-le-pow_right two_pos (omega (arith, l, room)) in
    let less : (2 ^ p - 1) * 2 ^ j ≤ 2 ^ P - 1 =
    let w : 2 ^ p ≡ (2 ^ p - 1) + 1 = omega (arith, q) in
    let v : 2 ^ p * 2 ^ j ≡ ((2 ^ p - 1) + 1) * 2 ^ j = ap (λ (n : ℕ). n * 2 ^ j) w in
    omega (arith, v, whole, most, one) in
    let a : (2 ^ p - 1) * 2 ^ j * 2 ^ S ≤ (2 ^ P - 1) * 2 ^ S = mul-le-mul_right (2 ^ S) less in
    let b : (2 ^ p - 1) * 2 ^ s ≡ (2 ^ p - 1) * 2 ^ j * 2 ^ S = ap (λ (n : ℕ). (2 ^ p - 1) * n) e ∙ omega arith in
    omega (arith, a, b))
    (λ (l : s ≤ S).
    let low : 2 ^ s ≤ 2 ^ S = pow-le-pow_right two_pos l in
    let more : 2 ^ p ≤ 2 ^ P = pow-le-pow_right two_pos few in
    let a : (2 ^ p - 1) * 2 ^ s ≤ (2 ^ P - 1) * 2 ^ s = mul-le-mul_right (2 ^ s) (omega (arith, more)) in
    let b : (2 ^ P - 1) * 2 ^ s ≤ (2 ^ P - 1) * 2 ^ S = mul-le-mul_left (2 ^ P - 1) low in
    omega (arith, a, b))
    (cases_lt S s)
