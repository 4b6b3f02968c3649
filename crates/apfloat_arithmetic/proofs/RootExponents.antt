-- Square roots of stored numbers: their exponents, counted from the quantum's.
use Rattle.std.proofs.{Math.Nat.le_of_mul-le-mul_right, lemmas.Int.ints, lemmas.Nat.pow_pos, lemmas.Nat.pow-add}
use Rattle.std.proofs.Common.{◌≡◌, ℕ, ◌+◌, ◌-◌, ◌*◌, ◌^◌, ◌≤◌, sym, ap, ◌∙◌, arith, ℤ, pos, ◌+ℤ◌, ◌-ℤ◌}
use Rattle.apfloat_model.specs.rounding.Standing.{up, down}
use Rattle.apfloat_rounding.specs.{declared.shape.Shape.Shape, Shapes.format_at, Stored.IsNormalAt, Stored.quanta_at}
use Rattle.apfloat_rounding.proofs.ShapeExponents.{scale_is}

-- a product with a power of two and the square of another one
power_of_both : (n x y : ℕ) → n * 2 ^ x * (2 ^ y * 2 ^ y) ≡ n * 2 ^ (x + (y + y))
power_of_both n x y =
    let e : 2 ^ (x + (y + y)) ≡ 2 ^ x * (2 ^ y * 2 ^ y) = pow-add 2 x (y + y) ∙
    ap (λ (z : ℕ). 2 ^ x * z) (pow-add 2 y y) in
    let d : n * 2 ^ (x + (y + y)) ≡ n * (2 ^ x * (2 ^ y * 2 ^ y)) = ap (λ (z : ℕ). n * z) e in
    omega arith

-- if two numbers are equal at some places, they are equal with further places that balance
same_places : (n s a b x y : ℕ) → n * 2 ^ a ≡ s * 2 ^ b → b + x ≡ y + a → n * 2 ^ x ≡ s * 2 ^ y
same_places n s a b x y e l =
    let p : 2 ^ b * 2 ^ x ≡ 2 ^ y * 2 ^ a = sym (pow-add 2 b x) ∙ ap (λ (z : ℕ). 2 ^ z) l ∙ pow-add 2 y a in
    let q : n * 2 ^ a * 2 ^ x ≡ s * 2 ^ b * 2 ^ x = ap (λ (z : ℕ). z * 2 ^ x) e in
    let r : s * (2 ^ b * 2 ^ x) ≡ s * (2 ^ y * 2 ^ a) = ap (λ (z : ℕ). s * z) p in
    let h : n * 2 ^ x * 2 ^ a ≤ s * 2 ^ y * 2 ^ a = omega arith in
    let k : s * 2 ^ y * 2 ^ a ≤ n * 2 ^ x * 2 ^ a = omega arith in
    let u : n * 2 ^ x ≤ s * 2 ^ y = le_of_mul-le-mul_right h (pow_pos a) in
    let v : s * 2 ^ y ≤ n * 2 ^ x = le_of_mul-le-mul_right k (pow_pos a) in
    omega arith

-- the exponents of a root, with that of its operand, balance
balanced_root : (precision places scale odd : ℕ) (min_exp x half r : ℤ) → 3 ≤ precision
    → pos scale ≡ pos (precision - 1) -ℤ min_exp → x ≡ (half +ℤ half) +ℤ pos odd → places ≡ precision - 1 + odd
    → r ≡ half -ℤ pos (precision - 1) → up (x -ℤ min_exp) + (scale + (down (r +ℤ pos scale) + down (r +ℤ pos scale)))
    ≡ (places + (up (r +ℤ pos scale) + up (r +ℤ pos scale))) + down (x -ℤ min_exp)
balanced_root precision places scale odd min_exp x half r t l h p e = omega (arith, ints)

-- the square of the root in quanta is the significand with its zeros, in squares of the root's unit
pub root_is : (shape : Shape) (x half r : ℤ) (m places odd : ℕ) → IsNormalAt shape m x → x ≡ (half +ℤ half) +ℤ pos odd
    → places ≡ shape.precision - 1 + odd
    → r ≡ half -ℤ pos (shape.precision - 1) → quanta_at shape.min_exp m x * 2 ^ (format_at shape).scale
    * (2 ^ down (r +ℤ pos (format_at shape).scale) * 2 ^ down (r +ℤ pos (format_at shape).scale)) ≡ m * 2 ^ places
    * (2 ^ up (r +ℤ pos (format_at shape).scale) * 2 ^ up (r +ℤ pos (format_at shape).scale))
root_is shape x half r m places odd n h p e =
    let unit : ℤ = r +ℤ pos (format_at shape).scale in
    power_of_both (quanta_at shape.min_exp m x) (format_at shape).scale (down unit)
    ∙ same_places (quanta_at shape.min_exp m x) m (down (x -ℤ shape.min_exp)) (up (x -ℤ shape.min_exp)) _ _ n.whole
    (balanced_root shape.precision places (format_at shape).scale odd shape.min_exp x half r
    shape.parameters.precision_low (scale_is shape) h p e) ∙ sym (power_of_both m places (up unit))
