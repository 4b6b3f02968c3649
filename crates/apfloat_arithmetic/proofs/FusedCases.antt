-- Fused sums with a product or an addend that is zero.
use Rattle.std.proofs.Common.{◌≡◌, ℕ, ◌+ℤ◌, ◌*◌, ◌^◌, ◌<◌, pos, Bool, ap, subst, ◌∙◌}
use Rattle.std.proofs.{Common.arith, Math.Nat.mul-pos, lemmas.Nat.pow_pos}
use Rattle.apfloat_model.specs.declared.kinds.Round.{Round}
use Rattle.apfloat_model.specs.formats.{Datum.Datum, Datum.finite, Format.Format}
use Rattle.apfloat_model.specs.arithmetic.{Exact.product_sign, Exact.signed, Sums.zero_sum_sign, FusedSums.IsFusedSum}
use Rattle.apfloat_model.specs.rounding.Rounding.{IsDelivered}
use Rattle.apfloat_model.proofs.arithmetic.Signs.{no_sign, and_zero, zero_and, rounded_signed}

-- if the addend is zero, the exact sum is the product
product_alone : (left right : Bool) (m n : ℕ) → n ≡ 0 → (signed left m +ℤ signed right n) ≡ signed left m
product_alone s d m n z = rw z (and_zero (signed s m) d)

-- if the product is zero, the exact sum is the addend
addend_alone : (left right : Bool) (m n : ℕ) → m ≡ 0 → (signed left m +ℤ signed right n) ≡ signed right n
addend_alone s d m n z = rw z (zero_and s (signed d n))

-- the fused sum of a nonzero product and a zero is the product, rounded
pub product_rounded : (format : Format) (mode : Round) (left right addend : Bool) (l m : ℕ) (value : Datum) (status : ℕ)
    → 0 < l → 0 < m → IsDelivered format mode (product_sign left right) (l * m) (2 ^ format.scale) value status
    → IsFusedSum format mode (finite left l) (finite right m) (finite addend 0) value status
product_rounded format mode b c d l m value status p q h =
    rounded_signed format mode (zero_sum_sign mode (product_sign b c) d) (product_sign b c) (l * m) (2 ^ format.scale)
    (signed (product_sign b c) (l * m) +ℤ signed d (0 * 2 ^ format.scale)) value status
    (product_alone (product_sign b c) d (l * m) (0 * 2 ^ format.scale) (omega arith)) (mul-pos p q) h

-- the fused sum of a zero product and a zero is an exact zero
pub zeros_rounded : (format : Format) (mode : Round) (left right addend sign : Bool) (l m : ℕ) (value : Datum)
    (status : ℕ) → l * m ≡ 0 → sign ≡ zero_sum_sign mode (product_sign left right) addend
    → ((parts : ℕ) → 0 < parts → IsDelivered format mode sign 0 parts value status)
    → IsFusedSum format mode (finite left l) (finite right m) (finite addend 0) value status
zeros_rounded format mode b c d sign l m value status z e h =
    let n : 0 * 2 ^ format.scale ≡ 0 = omega arith in
    let w : (signed (product_sign b c) (l * m) +ℤ signed d (0 * 2 ^ format.scale)) ≡ pos 0 =
    addend_alone (product_sign b c) d (l * m) (0 * 2 ^ format.scale) z ∙ ap (signed d) n ∙ no_sign d in
    rw w (subst (λ (x : Bool). IsDelivered format mode x 0 (2 ^ format.scale) value status) e
    (h (2 ^ format.scale) (pow_pos format.scale)))

-- a fused sum, with the addend and the result replaced by equal ones
pub same_fused : (format : Format) (mode : Round) (x y z value addend answer : Datum) (i j : ℕ) → z ≡ addend
    → value ≡ answer → i ≡ j → IsFusedSum format mode x y addend answer j → IsFusedSum format mode x y z value i
same_fused format mode x y z v d w i j p q r h = rw (p, q, r) h
