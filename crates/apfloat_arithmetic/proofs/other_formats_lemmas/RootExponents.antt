-- The unit of a root of another format's number.
use Rattle.std.proofs.Common.{◌≡◌, ℕ, ◌+◌, ◌*◌, ◌^◌, sym, ap, ◌∙◌, arith, ℤ, pos, neg_ℤ, ◌+ℤ◌, ◌-ℤ◌}
use Rattle.std.proofs.lemmas.{Int.ints, Nat.pow-add}
use Rattle.apfloat_model.specs.rounding.Standing.{up, down}
use Rattle.apfloat_model.proofs.general.Powers.{pow3}
use Rattle.apfloat_rounding.specs.Stored.{IsQuantaAt}
use Rattle.apfloat_arithmetic.proofs.other_formats_lemmas.Exponents.{same_places}

square : (a : ℕ) → 2 ^ (a + a) ≡ 2 ^ a * 2 ^ a
square a = pow-add 2 a a

-- the square of the root is the significand with its zeros, in squares of the unit
pub root_is : (m w s scale odd : ℕ) (x half last : ℤ) → IsQuantaAt (neg_ℤ (pos s)) w x m
    → x ≡ (half +ℤ half) +ℤ pos odd → last ≡ half -ℤ pos 62
    → m * 2 ^ s * (2 ^ scale * 2 ^ scale) * (2 ^ down (last +ℤ pos scale) * 2 ^ down (last +ℤ pos scale))
    ≡ w * 2 ^ (124 + odd) * ((2 ^ up (last +ℤ pos scale) * 2 ^ s) * (2 ^ up (last +ℤ pos scale) * 2 ^ s))
root_is m w s scale odd x half last h e l =
    let u = up (last +ℤ pos scale) in
    let d = down (last +ℤ pos scale) in
    let k : m * 2 ^ (s + (scale + scale) + (d + d)) ≡ w * 2 ^ (124 + odd) * 2 ^ ((u + s) + (u + s)) =
    same_places m w (down (x -ℤ neg_ℤ (pos s))) (up (x -ℤ neg_ℤ (pos s))) (s + (scale + scale) + (d + d)) (124 + odd)
    ((u + s) + (u + s)) h (omega (arith, ints)) in
    let i : 2 ^ (s + (scale + scale) + (d + d)) ≡ 2 ^ s * (2 ^ scale * 2 ^ scale) * (2 ^ d * 2 ^ d) =
    pow3 s (scale + scale) (d + d) ∙ ap (λ (z : ℕ). 2 ^ s * z * 2 ^ (d + d)) (square scale)
    ∙ ap (λ (z : ℕ). 2 ^ s * (2 ^ scale * 2 ^ scale) * z) (square d) in
    let j : 2 ^ ((u + s) + (u + s)) ≡ (2 ^ u * 2 ^ s) * (2 ^ u * 2 ^ s) =
    square (u + s) ∙ ap (λ (z : ℕ). z * z) (pow-add 2 u s) in
    let a : m * 2 ^ (s + (scale + scale) + (d + d)) ≡ m * (2 ^ s * (2 ^ scale * 2 ^ scale) * (2 ^ d * 2 ^ d)) =
    ap (λ (z : ℕ). m * z) i in
    let b : w * 2 ^ (124 + odd) * 2 ^ ((u + s) + (u + s)) ≡ w * 2 ^ (124 + odd) * ((2 ^ u * 2 ^ s) * (2 ^ u * 2 ^ s)) =
    ap (λ (z : ℕ). w * 2 ^ (124 + odd) * z) j in
    let r : m * 2 ^ s * (2 ^ scale * 2 ^ scale) * (2 ^ d * 2 ^ d)
    ≡ m * (2 ^ s * (2 ^ scale * 2 ^ scale) * (2 ^ d * 2 ^ d)) = omega arith in
    r ∙ sym a ∙ k ∙ b
