-- A zero is ordered as +0 of any format.
use Rattle.std.specs.Prelude.{◌≡◌, ℕ, zero, suc, ◌*◌, ◌^◌, ◌<◌, Bool, true, false, eqb, pos}
use Rattle.std.specs.{Prelude.neg_ℤ, Prelude.Some, declared.cmp.Ordering.TheVariants.Less}
use Rattle.std.specs.{declared.cmp.Ordering.TheVariants.Greater, Ordering.int_cmp, Cmp.int_cmp_is}
use Rattle.std.proofs.Common.{refl, sym, ap, ◌∙◌, arith}
use Rattle.std.proofs.{lemmas.Int.ints, lemmas.Bool.eqb-true, lemmas.Nat.pow_pos, Math.Nat.mul-lt-mul_of_pos_right}
use Rattle.apfloat_model.specs.{declared.kinds.Category.TheVariants.Zero, formats.Format.Format}
use Rattle.apfloat_model.specs.formats.{Datum.Datum, Datum.finite, Datum.infinite, Datum.nan, Constants.zero_datum}
use Rattle.apfloat_model.specs.{arithmetic.Exact.signed, order.Classes.category_of, order.Order.compared}
use Rattle.apfloat_model.proofs.{arithmetic.Signs.no_sign, order.Categories.zero_only}
use Rattle.ieee_operations.specs.TwoFormats.{compared_between}

-- 0 is above a negative number and below a positive one
below_zero : (k : ℕ) → 0 < k → Greater ≡ int_cmp (pos 0) (neg_ℤ (pos k))
below_zero k h = int_cmp_is (pos 0) (neg_ℤ (pos k)) Greater (omega (arith, ints, h))

above_zero : (k : ℕ) → 0 < k → Less ≡ int_cmp (pos 0) (pos k)
above_zero k h = int_cmp_is (pos 0) (pos k) Less (omega (arith, ints, h))

-- 0 is 0 in any unit
none : (parts : ℕ) → 0 * parts ≡ 0
none parts = omega arith

-- the order of 0 and a number does not depend on the unit
any_unit : (c : Bool) (m parts : ℕ) → 0 < parts → int_cmp (pos 0) (signed c m) ≡ int_cmp (pos 0) (signed c (m * parts))
any_unit true zero parts h = ap (λ j. int_cmp (pos 0) (signed true j)) (sym (none parts))
any_unit false zero parts h = ap (λ j. int_cmp (pos 0) (signed false j)) (sym (none parts))
any_unit true (suc m) parts h =
    let k : 0 * parts < suc m * parts = mul-lt-mul_of_pos_right (omega arith) h in
    sym (below_zero (suc m) (omega arith)) ∙ below_zero (suc m * parts) (omega (arith, k))
any_unit false (suc m) parts h =
    let k : 0 * parts < suc m * parts = mul-lt-mul_of_pos_right (omega arith) h in
    sym (above_zero (suc m) (omega arith)) ∙ above_zero (suc m * parts) (omega (arith, k))

-- a zero against a datum of the other format
pub zero_against : (f g : Format) (b : Bool) (y : Datum) → compared zero_datum y ≡ compared_between f g (finite b 0) y
zero_against f g b (nan c t) = refl
zero_against f g b (infinite true) = refl
zero_against f g b (infinite false) = refl
zero_against f g b (finite c m) =
    ap Some (any_unit c m (2 ^ f.scale) (pow_pos f.scale)
    ∙ ap (λ z. int_cmp z (signed c (m * 2 ^ f.scale))) (sym (no_sign b))
    ∙ ap (λ j. int_cmp (signed b j) (signed c (m * 2 ^ f.scale))) (sym (none (2 ^ g.scale))))

pub zero_ordered : (f g : Format) (x y : Datum) → category_of x ≡ Zero
    → compared zero_datum y ≡ compared_between f g x y
zero_ordered f g (finite b n) y e = rw (eqb-true n 0 (zero_only (eqb n 0) e)) (zero_against f g b y)
zero_ordered f g (infinite b) y e = cc
zero_ordered f g (nan b s) y e = cc
