-- Products under opposite rounding.
use Rattle.std.proofs.Common.{ℕ, zero, suc, ◌<◌, ◌*◌, ◌^◌, Bool, not, subst, arith}
use Rattle.std.proofs.lemmas.Bool.{false≢true}
use Rattle.apfloat_model.specs.{declared.kinds.Round.Round, formats.Format.Format, formats.Format.largest}
use Rattle.apfloat_model.specs.formats.Datum.{Datum, finite, infinite, nan}
use Rattle.apfloat_model.specs.rounding.{Rounding.IsDelivered, Negation.swapped, Negation.negated}
use Rattle.apfloat_model.specs.arithmetic.{Exact.product_sign, Products.IsProduct, Products.IsOpposite}
use Rattle.apfloat_model.proofs.general.Choices.{other_sign}
use Rattle.apfloat_model.proofs.rounding.Laws.{delivered_swapped, number_swapped}

-- the law of opposite rounding for two numbers
opposite_numbers : (format : Format) (mode : Round) (left right : Bool) (m n : ℕ) (value : Datum) (status : ℕ)
    → 0 < largest format → IsProduct format mode (finite left m) (finite right n) value status
    → IsOpposite format mode (finite left m) (finite right n) value status
opposite_numbers format mode b c zero n value status l h x y = absurd (false≢true x)
opposite_numbers format mode b c (suc m) n value status l h x y =
    let d : IsDelivered format (swapped mode) (product_sign (not b) c) (suc m * n) (2 ^ format.scale)
    (negated format.nonfinite value) status =
    subst (λ (sign : Bool). IsDelivered format (swapped mode) sign (suc m * n) (2 ^ format.scale)
    (negated format.nonfinite value) status) (other_sign b c)
    (delivered_swapped format mode (product_sign b c) (suc m * n) (2 ^ format.scale) value status l h) in
    subst (λ (left : Datum). IsProduct format (swapped mode) left (finite c n) (negated format.nonfinite value) status)
    (number_swapped format.nonfinite b (suc m) (omega arith)) d

-- the product with one factor negated, in the swapped mode, is the negated product
pub opposite_product : (format : Format) (mode : Round) (x y value : Datum) (status : ℕ) → 0 < largest format
    → IsProduct format mode x y value status → IsOpposite format mode x y value status
opposite_product format mode (nan b s) y value status l h p q = absurd (false≢true p)
opposite_product format mode (infinite b) y value status l h p q = absurd (false≢true p)
opposite_product format mode (finite b m) (nan c t) value status l h p q = absurd (false≢true q)
opposite_product format mode (finite b m) (infinite c) value status l h p q = absurd (false≢true q)
opposite_product format mode (finite b m) (finite c n) value status l h p q =
    opposite_numbers format mode b c m n value status l h p q
