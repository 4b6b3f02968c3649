-- Products with an infinity or a NaN among their factors, and sums with them.
use Rattle.std.proofs.Common.{◌≡◌, ◌⊎◌, inl, inr, ℕ, Bool, true, false, eqb, sym, subst, refl}
use Rattle.std.specs.Bool.{MatchBool}
use Rattle.std.specs.Prelude.{if◌then◌else◌}
use Rattle.apfloat_model.specs.declared.kinds.{Round.Round, Category.Category}
use Rattle.apfloat_model.specs.declared.kinds.Category.TheVariants.{Infinity, NaN, Normal}
use Rattle.apfloat_model.specs.formats.{Format.Format, Datum.Datum, Datum.finite, Datum.infinite, Datum.nan}
use Rattle.apfloat_model.specs.rounding.{Outcome.exactly, Outcome.invalid, Outcome.Yields, Answer.IsAnswer}
use Rattle.apfloat_model.specs.{rounding.Rounding.ok_bits, arithmetic.Exact.product_sign, arithmetic.Products.IsProduct}
use Rattle.apfloat_model.specs.{arithmetic.Sums.IsSum, arithmetic.FusedSums.IsSumWithProduct, order.Classes.is_finite}
use Rattle.apfloat_model.proofs.SpecialSums.{special_sum}
use Rattle.apfloat_rounding.specs.declared.{shape.Shape.Shape, unpacked.Unpacked.Unpacked}
use Rattle.apfloat_rounding.specs.{Shapes.format_at, Stored.datum_at, Stored.datum_by}

-- an infinity or a NaN is not finite
not_finite : (shape : Shape) (x : Unpacked) → (x.category ≡ Infinity) ⊎ (x.category ≡ NaN)
    → is_finite (datum_at shape x) ≡ false
not_finite shape x (inl e) = subst (λ (k : Category). is_finite (datum_by k shape x) ≡ false) (sym e) refl
not_finite shape x (inr e) = subst (λ (k : Category). is_finite (datum_by k shape x) ≡ false) (sym e) refl

-- an infinity or a NaN is no nonzero number, so not both values are
pub not_both : (x y : Category) → ((x ≡ Infinity) ⊎ (x ≡ NaN)) ⊎ ((y ≡ Infinity) ⊎ (y ≡ NaN)) → x ≡ Normal → y ≡ Normal
    → ⊥
not_both x y (inl (inl e)) f g = cc
not_both x y (inl (inr e)) f g = cc
not_both x y (inr (inl e)) f g = cc
not_both x y (inr (inr e)) f g = cc

-- if a given datum that is not finite is the result, the result is not finite
is_given : (given value : Datum) (flags status : ℕ) → is_finite given ≡ false → IsAnswer given flags value status
    → is_finite value ≡ false
is_given given value flags status e h = rw h.value_is e

-- the product of a number and an infinity is a NaN or an infinity
no_number : (format : Format) (mode : Round) (negative : Bool) (test : Bool) (value : Datum) (status : ℕ)
    → Yields format mode (if test then invalid format else exactly (infinite negative)) value status
    → is_finite value ≡ false
no_number format mode b true value status h = is_given _ value _ status refl h
no_number format mode b false value status h = is_given _ value _ status refl h

-- a product with a factor that is not finite is not finite
product_of_special : (format : Format) (mode : Round) (x y value : Datum) (status : ℕ)
    → (is_finite x ≡ false) ⊎ (is_finite y ≡ false) → IsProduct format mode x y value status → is_finite value ≡ false
product_of_special format mode (nan b s) y value status e h = is_given _ value _ status refl h
product_of_special format mode (infinite b) (nan c t) value status e h = is_given _ value _ status refl h
product_of_special format mode (infinite b) (infinite c) value status e h = is_given _ value _ status refl h
product_of_special format mode (infinite b) (finite c n) value status e h =
    no_number format mode (product_sign b c) (eqb n 0) value status h
product_of_special format mode (finite b m) (nan c t) value status e h = is_given _ value _ status refl h
product_of_special format mode (finite b m) (infinite c) value status e h =
    no_number format mode (product_sign b c) (eqb m 0) value status h
product_of_special format mode (finite b m) (finite c n) value status (inl e) h = cc
product_of_special format mode (finite b m) (finite c n) value status (inr e) h = cc

-- true is not false
apart : true ≡ false → ⊥
apart e = cc

-- the stored product of values, one of which is an infinity or a NaN, is not a number
pub is_no_number : (shape : Shape) (mode : Round) (x y value : Unpacked) (status : ℕ)
    → ((x.category ≡ Infinity) ⊎ (x.category ≡ NaN)) ⊎ ((y.category ≡ Infinity) ⊎ (y.category ≡ NaN))
    → IsProduct (format_at shape) mode (datum_at shape x) (datum_at shape y) (datum_at shape value) status
    → value.category ≡ Normal → ⊥
is_no_number shape mode x y value status (inl k) h e =
    apart (subst (λ (k : Category). is_finite (datum_by k shape value) ≡ false) e
    (product_of_special (format_at shape) mode (datum_at shape x) (datum_at shape y) (datum_at shape value) status
    (inl (not_finite shape x k)) h))
is_no_number shape mode x y value status (inr k) h e =
    apart (subst (λ (k : Category). is_finite (datum_by k shape value) ≡ false) e
    (product_of_special (format_at shape) mode (datum_at shape x) (datum_at shape y) (datum_at shape value) status
    (inr (not_finite shape y k)) h))

-- a fused sum whose product is known: the sum with it, or the product itself if it raised flags
pub with_product : (shape : Shape) (mode : Round) (x y : Unpacked) (z value product : Datum) (status flags : ℕ)
    → ((x.category ≡ Infinity) ⊎ (x.category ≡ NaN)) ⊎ ((y.category ≡ Infinity) ⊎ (y.category ≡ NaN))
    → IsProduct (format_at shape) mode (datum_at shape x) (datum_at shape y) product flags
    → MatchBool (eqb flags ok_bits) (IsSum (format_at shape) mode product z value status)
    (IsAnswer product flags value status)
    → IsSumWithProduct (format_at shape) mode (datum_at shape x) (datum_at shape y) z value status
with_product shape mode x y z value product status flags (inl k) p i =
    special_sum (format_at shape) mode _ _ z value product status flags (inl (not_finite shape x k)) p i
with_product shape mode x y z value product status flags (inr k) p i =
    special_sum (format_at shape) mode _ _ z value product status flags (inr (not_finite shape y k)) p i
