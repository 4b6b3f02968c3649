-- Products and quotients of stored numbers: their exponents, counted from the quantum's.
use Rattle.std.proofs.Common.{◌≡◌, ℕ, ◌+◌, ◌-◌, ◌*◌, ◌^◌, ◌<◌, ◌≤◌, sym, ap}
use Rattle.std.proofs.Common.{◌∙◌, arith, ℤ, pos, ◌+ℤ◌, ◌-ℤ◌, ◌≤ℤ◌, to_z, of_z, w32}
use Rattle.std.proofs.{Math.Nat.eq_of_mul-eq-mul_right, lemmas.Int.ints, lemmas.Nat.pow_pos, lemmas.Nat.pow-add}
use Rattle.std.specs.Prelude.{neg_ℤ}
use Rattle.apfloat_model.specs.{declared.loss.Loss.Loss, rounding.Bounds.IsWithin, rounding.Bounds.number_bound}
use Rattle.apfloat_model.specs.rounding.{Standing.StandsFor, Standing.up, Standing.down, RoundingToOdd.IsRoundedToOdd}
use Rattle.apfloat_model.proofs.general.Powers.{pow3}
use Rattle.apfloat_model.proofs.arithmetic.Fractions.{product_stands, quotient_carries}
use Rattle.apfloat_model.proofs.rounding.KeptDigits.{stands_cancel, stands_times}
use Rattle.apfloat_model.proofs.rounding.OddRoundings.{to_odd_times, to_odd_cancel}
use Rattle.apfloat_words.proofs.Totals.{no_down}
use Rattle.apfloat_rounding.specs.{declared.shape.Shape.Shape, Shapes.format_at, Stored.IsNormalAt, Stored.quanta_at}
use Rattle.apfloat_rounding.proofs.ShapeExponents.{scale_is, exponent_word}
use Rattle.apfloat_arithmetic.specs.NumberResults.{CountsSquares}

-- the exponent of a stored number is within the bounds of numbers, and fits in its type
pub record IsNearProduct (e : ℤ) : Type 0 where
  pub within : IsWithin number_bound e
  pub word : to_z w32 (of_z w32 e) ≡ e

-- the exponent of a stored number is within those bounds
pub normal_near : (shape : Shape) (m : ℕ) (e : ℤ) → IsNormalAt shape m e → IsNearProduct e
normal_near shape m e n =
    let l = shape.parameters in
    let o = n.operand in
    record {
      within = record { low = omega (arith, ints, l, o); high = omega (arith, ints, l, o) };
      word = exponent_word shape m e n;
    }

-- the exponents of a product, with those of its factors, balance
balanced_product : (precision scale : ℕ) (min_exp x y r : ℤ) → 3 ≤ precision
    → pos scale ≡ pos (precision - 1) -ℤ min_exp → r ≡ ((x +ℤ y) -ℤ pos (2 * (precision - 1)))
    → up (x -ℤ min_exp) + up (y -ℤ min_exp) + down (r +ℤ pos scale)
    ≡ down (x -ℤ min_exp) + down (y -ℤ min_exp) + (scale + up (r +ℤ pos scale))
balanced_product precision scale min_exp x y r t l e = omega (arith, ints)

-- the exponents of a quotient, with those of its operands, balance
balanced_quotient : (precision places scale : ℕ) (min_exp x y r : ℤ) → 3 ≤ precision
    → pos scale ≡ pos (precision - 1) -ℤ min_exp → r ≡ ((x -ℤ y) -ℤ pos places)
    → down (x -ℤ min_exp) + places + up (y -ℤ min_exp) + up (r +ℤ pos scale)
    ≡ scale + down (r +ℤ pos scale) + (down (y -ℤ min_exp) + up (x -ℤ min_exp))
balanced_quotient precision places scale min_exp x y r t l e = omega (arith, ints)

-- the product of the significands represents the product of the numbers, both in quanta
pub product_is : (shape : Shape) (x y r : ℤ) (m n p : ℕ)
    → IsNormalAt shape m x → IsNormalAt shape n y → p ≡ m * n → r ≡ ((x +ℤ y) -ℤ pos (2 * (shape.precision - 1)))
    → quanta_at shape.min_exp m x * quanta_at shape.min_exp n y * 2 ^ down (r +ℤ pos (format_at shape).scale)
    ≡ p * (2 ^ (format_at shape).scale * 2 ^ up (r +ℤ pos (format_at shape).scale))
product_is shape x y r m n p hx hy v e =
    let unit : ℤ = r +ℤ pos (format_at shape).scale in
    product_stands m n (quanta_at shape.min_exp m x) (quanta_at shape.min_exp n y) (up (x -ℤ shape.min_exp))
    (up (y -ℤ shape.min_exp)) (down (x -ℤ shape.min_exp)) (down (y -ℤ shape.min_exp)) (format_at shape).scale (up unit)
    (down unit) hx.whole hy.whole (balanced_product shape.precision (format_at shape).scale shape.min_exp x y r
    shape.parameters.precision_low (scale_is shape) e)
    ∙ ap (λ (z : ℕ). z * (2 ^ (format_at shape).scale * 2 ^ up unit)) (sym v)

-- a product that is counted in each small unit, 2 ^ k of which are the square of the quantum, is so many quanta
pub counted_product_is : (scale amount p : ℕ) (e : ℤ) → CountsSquares scale amount e p
    → amount * 2 ^ down (e +ℤ pos scale) ≡ p * (2 ^ scale * 2 ^ up (e +ℤ pos scale))
counted_product_is scale amount p e counted =
    let k = down e in
    let base : ℤ = neg_ℤ (pos (2 * scale + k)) in
    let unit : ℤ = e +ℤ pos scale in
    let z : down (e -ℤ base) ≡ 0 = no_down (e -ℤ base) (omega (arith, ints)) in
    let c : p * 2 ^ up (e -ℤ base) ≡ amount * 2 ^ k = counted base k (omega (arith, ints)) (omega (arith, ints)) in
    let v : up (e -ℤ base) + down unit ≡ scale + up unit + k = omega (arith, ints) in
    let w : 2 ^ up (e -ℤ base) * 2 ^ down unit ≡ 2 ^ scale * 2 ^ up unit * 2 ^ k =
    sym (pow-add 2 (up (e -ℤ base)) (down unit)) ∙ ap (λ (n : ℕ). 2 ^ n) v ∙ pow3 scale (up unit) k in
    let a : p * 2 ^ up (e -ℤ base) * 2 ^ down unit ≡ amount * 2 ^ k * 2 ^ down unit =
    ap (λ (n : ℕ). n * 2 ^ down unit) c in
    let b : p * (2 ^ up (e -ℤ base) * 2 ^ down unit) ≡ p * (2 ^ scale * 2 ^ up unit * 2 ^ k) =
    ap (λ (n : ℕ). p * n) w in
    eq_of_mul-eq-mul_right (2 ^ k) (pow_pos k) (amount * 2 ^ down unit) (p * (2 ^ scale * 2 ^ up unit)) (omega arith)

-- the exponents of a product, counted from the base, balance
product_balanced : (precision scale moved k : ℕ) (min_exp x y r e base : ℤ)
    → 3 ≤ precision → pos scale ≡ pos (precision - 1) -ℤ min_exp → r ≡ ((x +ℤ y) -ℤ pos (2 * (precision - 1)))
    → e ≡ r -ℤ pos moved → base ≤ℤ e → pos k ≡ neg_ℤ (base +ℤ pos (2 * scale))
    → up (x -ℤ min_exp) + up (y -ℤ min_exp) + k ≡ down (x -ℤ min_exp) + down (y -ℤ min_exp) + (moved + up (e -ℤ base))
product_balanced precision scale moved k min_exp x y r e base t l v w b h =
    let z : down (e -ℤ base) ≡ 0 = no_down (e -ℤ base) (omega (arith, ints)) in
    omega (arith, ints)

-- a product, counted from a base, is the product in squares of the quantum, scaled
pub product_counted : (shape : Shape) (x y r e base : ℤ) (m n p moved k : ℕ) → IsNormalAt shape m x
    → IsNormalAt shape n y → p ≡ m * n * 2 ^ moved → r ≡ ((x +ℤ y) -ℤ pos (2 * (shape.precision - 1)))
    → e ≡ r -ℤ pos moved → base ≤ℤ e → pos k ≡ neg_ℤ (base +ℤ pos (2 * (format_at shape).scale))
    → p * 2 ^ up (e -ℤ base) ≡ quanta_at shape.min_exp m x * quanta_at shape.min_exp n y * 2 ^ k
product_counted shape x y r e base m n p moved k hx hy v w z b h =
    let a : quanta_at shape.min_exp m x * quanta_at shape.min_exp n y * 2 ^ k
    ≡ m * n * (2 ^ moved * 2 ^ up (e -ℤ base)) =
    product_stands m n (quanta_at shape.min_exp m x) (quanta_at shape.min_exp n y) (up (x -ℤ shape.min_exp))
    (up (y -ℤ shape.min_exp)) (down (x -ℤ shape.min_exp)) (down (y -ℤ shape.min_exp)) moved (up (e -ℤ base)) k
    hx.whole hy.whole (product_balanced shape.precision (format_at shape).scale moved k shape.min_exp x y r e base
    shape.parameters.precision_low (scale_is shape) w z b h) in
    let c : p * 2 ^ up (e -ℤ base) ≡ m * n * 2 ^ moved * 2 ^ up (e -ℤ base) =
    ap (λ (q : ℕ). q * 2 ^ up (e -ℤ base)) v in
    omega arith

-- a relation that scaling preserves holds for the quotient of the numbers if it holds for that of the significands
quotient_says : (shape : Shape) (Says : ℕ → ℕ → Type 0) (x y r : ℤ) (places m n : ℕ)
    → ((amount unit w : ℕ) → 0 < w → Says amount unit → Says (amount * w) (unit * w))
    → ((amount unit w : ℕ) → 0 < w → Says (amount * w) (unit * w) → Says amount unit)
    → IsNormalAt shape m x → IsNormalAt shape n y → r ≡ ((x -ℤ y) -ℤ pos places) → Says (m * 2 ^ places) n
    → Says (quanta_at shape.min_exp m x * 2 ^ (format_at shape).scale * 2 ^ down (r +ℤ pos (format_at shape).scale))
    (quanta_at shape.min_exp n y * 2 ^ up (r +ℤ pos (format_at shape).scale))
quotient_says shape Says x y r places m n times cancel hx hy e h =
    let unit : ℤ = r +ℤ pos (format_at shape).scale in
    quotient_carries Says m n (quanta_at shape.min_exp m x)
    (quanta_at shape.min_exp n y) places (up (x -ℤ shape.min_exp)) (up (y -ℤ shape.min_exp))
    (down (x -ℤ shape.min_exp)) (down (y -ℤ shape.min_exp)) (format_at shape).scale (up unit) (down unit) times cancel
    hx.whole hy.whole (balanced_quotient shape.precision places (format_at shape).scale shape.min_exp x y r
    shape.parameters.precision_low (scale_is shape) e) h

-- the quotient of the significands represents the quotient of the numbers
pub quotient_is : (shape : Shape) (x y r : ℤ) (places q : ℕ) (loss : Loss) (m n : ℕ)
    → IsNormalAt shape m x → IsNormalAt shape n y → r ≡ ((x -ℤ y) -ℤ pos places) → StandsFor q loss (m * 2 ^ places) n
    → StandsFor q loss (quanta_at shape.min_exp m x * 2 ^ (format_at shape).scale * 2 ^ down
    (r +ℤ pos (format_at shape).scale)) (quanta_at shape.min_exp n y * 2 ^ up (r +ℤ pos (format_at shape).scale))
quotient_is shape x y r places q loss m n hx hy e h =
    quotient_says shape (λ (a : ℕ) (u : ℕ). StandsFor q loss a u) x y r places m n
    (λ a u w p k. stands_times q loss a u w p k) (λ a u w p k. stands_cancel q loss a u w p k) hx hy e h

-- the quotient of the significands, rounded to odd, is the quotient of the numbers, rounded to odd
pub odd_quotient_is : (shape : Shape) (x y r : ℤ) (places least q m n : ℕ) → IsNormalAt shape m x
    → IsNormalAt shape n y → r ≡ ((x -ℤ y) -ℤ pos places) → IsRoundedToOdd least q (m * 2 ^ places) n
    → IsRoundedToOdd least q (quanta_at shape.min_exp m x * 2 ^ (format_at shape).scale * 2 ^ down
    (r +ℤ pos (format_at shape).scale)) (quanta_at shape.min_exp n y * 2 ^ up (r +ℤ pos (format_at shape).scale))
odd_quotient_is shape x y r places least q m n hx hy e h =
    quotient_says shape (λ (a : ℕ) (u : ℕ). IsRoundedToOdd least q a u) x y r places m n
    (λ a u w p k. to_odd_times least q a u w p k) (λ a u w p k. to_odd_cancel least q a u w p k) hx hy e h

-- the significand of a stored number is above 0
pub normal_some : (shape : Shape) (m : ℕ) (e : ℤ) → IsNormalAt shape m e → 0 < m
normal_some shape m e n = let p : 0 < 2 ^ (shape.precision - 1) = pow_pos (shape.precision - 1) in
    let f = n.operand.full in
    omega arith
