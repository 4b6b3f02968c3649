-- Totals of more digits than a format has, rounded to odd, which are delivered.
use Rattle.std.proofs.{Math.Nat.pow-le-pow_right, lemmas.Int.ints}
use Rattle.std.proofs.Common.{◌≡◌, ℕ, ℤ, pos, ◌+◌, ◌*◌, ◌^◌, ◌<◌, ◌≤◌, ◌+ℤ◌, ◌≤ℤ◌, Bool, refl, subst, arith}
use Rattle.apfloat_model.specs.{declared.kinds.Round.Round, formats.Datum.Datum, formats.Format.Format}
use Rattle.apfloat_model.specs.arithmetic.Exact.{signed, magnitude, up, down, IsRounded}
use Rattle.apfloat_model.specs.rounding.{Bounds.integer_bit_bound, RoundingToOdd.IsRoundedToOdd}
use Rattle.apfloat_model.proofs.{general.Powers.two_pos, rounding.OddRoundings.to_odd_least}
use Rattle.apfloat_words.specs.Totals.{counted, IsSignedToOdd}
use Rattle.apfloat_rounding.specs.{declared.shape.Shape.Shape, Shapes.format_at, Stored.IsNormalAt, Stored.quanta_at}
use Rattle.apfloat_arithmetic.specs.NumberResults.{IsFusedTerm}
use Rattle.apfloat_arithmetic.proofs.Additions.{odd_sum_read, scale_is}
use Rattle.apfloat_arithmetic.proofs.WideTerms.{odd_fused_read, odd_in_quanta}

-- `exact / parts` quanta have that sign, and their magnitude is rounded to odd, with more digits than the format has
pub record IsOddTotal (precision parts : ℕ) (exact : ℤ) (negative : Bool) (unit : ℤ) (significand : ℕ)
    : Type 0 where
  pub rounded : IsRoundedToOdd (2 ^ (precision + 1)) significand (magnitude exact * 2 ^ down unit) (parts * 2 ^ up unit)
  pub is : signed negative (magnitude exact) ≡ exact

-- the total of the terms of two numbers is their sum
pub sum_total : (s : Shape) (kept digits : ℕ) (xe ye tx ty e : ℤ) (left right negative : Bool) (mx my q : ℕ)
    → s.precision + 1 ≤ kept → IsNormalAt s mx xe → IsNormalAt s my ye → (tx +ℤ pos s.precision) ≡ (xe +ℤ pos 1)
    → (ty +ℤ pos s.precision) ≡ (ye +ℤ pos 1) → ((base : ℤ) → (base +ℤ pos digits) ≤ℤ tx → (base +ℤ pos digits) ≤ℤ ty
    → IsSignedToOdd (2 ^ kept) base (counted base left tx mx +ℤ counted base right ty my) negative e q)
    → IsOddTotal s.precision 1 (signed left (quanta_at s.min_exp mx xe) +ℤ signed right (quanta_at s.min_exp my ye))
    negative (e +ℤ pos (format_at s).scale) q
sum_total s kept digits xe ye tx ty e left right negative mx my q few x y ax ay total =
    let least : 2 ^ (s.precision + 1) ≤ 2 ^ kept = pow-le-pow_right two_pos few in
    let scale = (format_at s).scale in
    let r = odd_sum_read (2 ^ kept) digits s.precision scale s.min_exp xe ye tx ty e (e +ℤ pos scale) left right
    negative mx my (quanta_at s.min_exp mx xe) (quanta_at s.min_exp my ye) q x.operand.least y.operand.least ax ay
    (scale_is s.precision s.min_exp s.parameters.precision_low s.parameters.min_exp_high) refl x.whole y.whole total in
    record { rounded = to_odd_least (2 ^ kept) (2 ^ (s.precision + 1)) q _ _ least r.rounded; is = r.is }

-- the total of a product and an addend is the fused sum
pub fused_total : (s : Shape) (kept digits : ℕ) (x z e : ℤ) (left right a b negative : Bool) (p w m n q : ℕ)
    → s.precision + 1 ≤ kept → IsFusedTerm s left m a x p → IsFusedTerm s right n b z w
    → ((base : ℤ) → (base +ℤ pos digits) ≤ℤ x → (base +ℤ pos digits) ≤ℤ z
    → IsSignedToOdd (2 ^ kept) base (counted base a x p +ℤ counted base b z w) negative e q)
    → IsOddTotal s.precision (2 ^ (format_at s).scale) (signed left m +ℤ signed right n) negative
    (e +ℤ pos (format_at s).scale) q
fused_total s kept digits x z e left right a b negative p w m n q few product addend total =
    let least : 2 ^ (s.precision + 1) ≤ 2 ^ kept = pow-le-pow_right two_pos few in
    let scale = (format_at s).scale in
    let fine = e +ℤ pos (2 * (format_at s).scale) in
    let r = odd_fused_read (2 ^ kept) digits scale integer_bit_bound x z e fine left right negative p w m n q
    product.within.low addend.within.low refl product.counted addend.counted
    (rw (product.negative, addend.negative) at total) in
    let h = odd_in_quanta (2 ^ kept) q (magnitude (signed left m +ℤ signed right n)) scale (e +ℤ pos scale) fine
    (omega (arith, ints)) r.rounded in
    record { rounded = to_odd_least (2 ^ kept) (2 ^ (s.precision + 1)) q _ _ least h; is = r.is }

-- what delivers each amount that was rounded to odd delivers the exact total
pub total_delivered : (f : Format) (mode : Round) (of_zero negative : Bool) (precision parts q : ℕ)
    (exact unit : ℤ) (value : Datum) (status : ℕ) → 0 < parts → IsOddTotal precision parts exact negative unit q
    → ((amount n : ℕ) → 0 < n → IsRoundedToOdd (2 ^ (precision + 1)) q (amount * 2 ^ down unit) (n * 2 ^ up unit)
    → IsRounded f mode of_zero (signed negative amount) n value status)
    → IsRounded f mode of_zero exact parts value status
total_delivered f mode of_zero negative precision parts q exact unit value status some total deliver =
    subst (λ (z : ℤ). IsRounded f mode of_zero z parts value status) total.is
    (deliver (magnitude exact) parts some total.rounded)
