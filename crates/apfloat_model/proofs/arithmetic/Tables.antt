-- The rows for zeros, in the tables of special operands, are exact results rounded once; and the rows for a right NaN.
use Rattle.std.proofs.Common.{◌≡◌, ℕ, ◌*◌, ◌^◌, ◌<◌, Bool, true, false, refl, ap, ◌∙◌, subst}
use Rattle.std.proofs.{Common.lit<, Common.arith, lemmas.Nat.pow_pos, Math.Nat.mul-pos}
use Rattle.std.specs.Prelude.{ℤ, ◌+ℤ◌}
use Rattle.apfloat_model.specs.declared.kinds.Round.{Round}
use Rattle.apfloat_model.specs.formats.{Format.Format, Datum.Datum, Datum.finite, Members.IsFiniteOf}
use Rattle.apfloat_model.specs.rounding.Rounding.{ok_bits, zero_sign, IsDelivered}
use Rattle.apfloat_model.specs.arithmetic.Exact.{signed, product_sign}
use Rattle.apfloat_model.specs.arithmetic.{Sums.zero_sum_sign, Sums.IsSum, FusedSums.IsFusedSum, Scaling.IsScaling}
use Rattle.apfloat_model.proofs.texts.ZeroTexts.{zero_text}
use Rattle.apfloat_model.proofs.rounding.{Deliveries.signed_some, Laws.exact_delivered, Laws.zero_delivered}
use Rattle.apfloat_model.proofs.arithmetic.Signs.{and_zero, zero_and, rounded_signed}

-- ---- a nonzero finite datum, delivered

-- a number of the format, as an exact result, is delivered unchanged
pub itself : (format : Format) (mode : Round) (negative : Bool) (m parts amount : ℕ) → 0 < parts → 0 < m
    → amount ≡ m * parts → IsFiniteOf format negative m
    → IsDelivered format mode negative amount parts (finite negative m) ok_bits
itself format mode b m parts amount p h e i =
    subst (λ (v : Datum). IsDelivered format mode b amount parts v ok_bits) (signed_some format.nonfinite b m h)
    (exact_delivered format mode b m amount parts p i.on_grid i.within e)

-- ---- the rows

-- a nonzero number plus a zero
pub sum_finite_zero : (format : Format) (mode : Round) (left right : Bool) (m : ℕ) → 0 < m → IsFiniteOf format left m
    → IsSum format mode (finite left m) (finite right 0) (finite left m) ok_bits
sum_finite_zero format mode b c m h i =
    rounded_signed format mode _ b m 1 _ _ _ (and_zero (signed b m) c) h
    (itself format mode b m 1 m (lit< tt) h (omega arith) i)

-- a zero plus a nonzero number
pub sum_zero_finite : (format : Format) (mode : Round) (left right : Bool) (n : ℕ) → 0 < n → IsFiniteOf format right n
    → IsSum format mode (finite left 0) (finite right n) (finite right n) ok_bits
sum_zero_finite format mode b c n h i =
    rounded_signed format mode _ c n 1 _ _ _ (zero_and b (signed c n)) h
    (itself format mode c n 1 n (lit< tt) h (omega arith) i)

-- a zero plus a zero
pub sum_zeros : (format : Format) (mode : Round) (left right : Bool)
    → IsSum format mode (finite left 0) (finite right 0)
    (finite (zero_sign format.nonfinite (zero_sum_sign mode left right)) 0) ok_bits
sum_zeros format mode true true = zero_delivered format mode _ 1 0 (lit< tt) refl
sum_zeros format mode true false = zero_delivered format mode _ 1 0 (lit< tt) refl
sum_zeros format mode false true = zero_delivered format mode _ 1 0 (lit< tt) refl
sum_zeros format mode false false = zero_delivered format mode _ 1 0 (lit< tt) refl

-- a zero times a power of two
pub scaling_zero : (format : Format) (mode : Round) (negative : Bool) (j : ℤ)
    → IsScaling format mode (finite negative 0) j (finite (zero_sign format.nonfinite negative) 0)
scaling_zero format mode negative j = (ok_bits, zero_text format mode negative j)

-- a product that is zero, plus a number
pub fused_zero_finite : (format : Format) (mode : Round) (left right addend : Bool) (l m n : ℕ) → l * m ≡ 0 → 0 < n
    → IsFiniteOf format addend n
    → IsFusedSum format mode (finite left l) (finite right m) (finite addend n) (finite addend n) ok_bits
fused_zero_finite format mode b c d l m n e h i =
    let p : 0 < 2 ^ format.scale = pow_pos format.scale in
    let z : signed (product_sign b c) (l * m) +ℤ signed d (n * 2 ^ format.scale) ≡ signed d (n * 2 ^ format.scale) =
    ap (λ (x : ℕ). signed (product_sign b c) x +ℤ signed d (n * 2 ^ format.scale)) e ∙
    zero_and (product_sign b c) (signed d (n * 2 ^ format.scale)) in
    rounded_signed format mode _ d (n * 2 ^ format.scale) (2 ^ format.scale) _ _ _ z (mul-pos h p)
    (itself format mode d n (2 ^ format.scale) (n * 2 ^ format.scale) p h refl i)
