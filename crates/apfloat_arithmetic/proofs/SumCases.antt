-- Sums and differences of stored values, by the categories of their operands.
use Rattle.std.proofs.Common.{◌≡◌, ℕ, ◌<◌, Bool, false, ap, subst, rules}
use Rattle.apfloat_model.specs.declared.kinds.Category.{Category, TheVariants.Normal}
use Rattle.apfloat_model.specs.declared.kinds.{Round.Round, NonfiniteBehavior.NonfiniteBehavior}
use Rattle.apfloat_model.specs.formats.Datum.{Datum, finite, infinite, nan}
use Rattle.apfloat_model.specs.formats.{Format.Format, Members.IsFiniteOf, Members.IsMember, Nan.is_signaling_nan}
use Rattle.apfloat_model.specs.{rounding.Negation.negated, arithmetic.Sums.IsSum, arithmetic.Sums.IsDifference}
use Rattle.apfloat_rounding.specs.{declared.shape.Shape.Shape, declared.unpacked.Unpacked.Unpacked, Shapes.format_at}
use Rattle.apfloat_rounding.specs.Stored.{IsNormalAt, IsStored, IsStoredBy, datum_at, datum_by, quanta_at}
use Rattle.apfloat_rounding.proofs.{StoredBack.quanta_some, StoredMembers.member_is}
use Rattle.apfloat_arithmetic.specs.Subtrahends.{added}

-- a stored nonzero number belongs to the format, and its number of quanta is above 0
pub number_stored : (shape : Shape) (x : Unpacked) → x.category ≡ Normal → IsStored shape x
    → IsFiniteOf (format_at shape) x.negative (quanta_at shape.min_exp x.significand x.exponent)
    × (0 < quanta_at shape.min_exp x.significand x.exponent)
number_stored shape x e h =
    let n : IsNormalAt shape x.significand x.exponent = subst (λ (k : Category). IsStoredBy k shape x) e h in (
      subst (λ (k : Category). IsMember (format_at shape) (datum_by k shape x)) e (member_is shape x h),
      quanta_some shape x.significand x.exponent n,
    )

-- a sum, with operands and result replaced by equal ones
pub same_sum : (format : Format) (mode : Round) (x y value left right answer : Datum) (i j : ℕ) → x ≡ left → y ≡ right
    → value ≡ answer → i ≡ j → IsSum format mode left right answer j → IsSum format mode x y value i
same_sum format mode x y v a b d i j p q r e h = rw (p, q, r, e) h

-- a value of a given category represents the datum that the category determines
pub datum_is : (category : Category) (shape : Shape) (x : Unpacked) → x.category ≡ category
    → datum_at shape x ≡ datum_by category shape x
datum_is category shape x e = ap (λ (l : Category). datum_by l shape x) e

-- a negated number or zero is not a signaling NaN
not_signaling : (format : Format) (kind : NonfiniteBehavior) (negative : Bool) (n : ℕ)
    → is_signaling_nan format (negated kind (finite negative n)) ≡ false
not_signaling format kind b n = search rules

-- a difference is the sum with the negated subtrahend
pub difference_is : (format : Format) (mode : Round) (x y value : Datum) (i : ℕ)
    → IsSum format mode x (added format.nonfinite y) value i → IsDifference format mode x y value i
difference_is format mode (nan b s) (nan c t) v i h = h
difference_is format mode (nan b s) (infinite c) v i h = h
difference_is format mode (nan b s) (finite c n) v i h = rw (not_signaling format format.nonfinite c n) at h
difference_is format mode (finite b m) (nan c t) v i h = h
difference_is format mode (finite b m) (infinite c) v i h = h
difference_is format mode (finite b m) (finite c n) v i h = h
difference_is format mode (infinite b) (nan c t) v i h = h
difference_is format mode (infinite b) (infinite c) v i h = h
difference_is format mode (infinite b) (finite c n) v i h = h
