-- Each relation determines the value and the status.
use Rattle.std.proofs.Common.{◌≡◌, ℕ, zero, suc, ◌+◌, ◌-◌, Bool, true, false, not, eqb, sym, ap, ◌∙◌, arith}
use Rattle.std.specs.Prelude.{ℤ}
use Rattle.apfloat_model.specs.declared.kinds.Round.{Round, TheVariants.NearestTiesToEven}
use Rattle.apfloat_model.specs.formats.{Datum.Datum, Datum.finite, Datum.infinite, Datum.nan, Nan.is_signaling}
use Rattle.apfloat_model.specs.formats.Format.{Format, largest}
use Rattle.apfloat_model.specs.rounding.{Rounding.ok_bits, Rounding.signed_quanta, Negation.negated, Answer.IsAnswer}
use Rattle.apfloat_model.specs.arithmetic.{Sums.sum, Sums.difference, Sums.IsSum, Sums.IsDifference, Products.product}
use Rattle.apfloat_model.specs.arithmetic.{Products.IsProduct, Quotients.quotient, Quotients.IsQuotient, Roots.root}
use Rattle.apfloat_model.specs.arithmetic.{Roots.IsRoot, FusedSums.fused_sum, FusedSums.IsFusedSum, Scaling.IsScaling}
use Rattle.apfloat_model.specs.arithmetic.Conversions.{IsConverted, IsConvertedNumber, IsConversion}
use Rattle.apfloat_model.specs.arithmetic.Remainders.{remainder, IsRemainder}
use Rattle.apfloat_model.specs.arithmetic.NextUp.{IsNextGreater, IsNextLess, IsNextOfNumber, IsNextUp, IsNextDown}
use Rattle.apfloat_model.specs.whole_numbers.WholeNumbers.{from_unsigned, from_signed, integral, IsFromUnsigned}
use Rattle.apfloat_model.specs.whole_numbers.WholeNumbers.{IsFromSigned, IsRoundToIntegral}
use Rattle.apfloat_model.specs.whole_numbers.WholeNumbersOut.{Whole, IsWhole}
use Rattle.apfloat_model.proofs.{general.Choices.match_case, general.Choices.not_zero, Outcomes.yields_once}
use Rattle.apfloat_model.proofs.rounding.{Neighbours.below_unique, Neighbours.above_unique, Laws.delivered_once}
pub use Rattle.apfloat_model.proofs.rounding.RootsOnce.{Once, answer_once, delivered_root_once}
pub use Rattle.apfloat_model.proofs.rounding.RootsOnce.{below_root_unique, above_root_unique}

-- each of the following operations has at most one value and one status
pub sum_once : (format : Format) (mode : Round) (x y : Datum) → Once (IsSum format mode x y)
sum_once format mode x y = yields_once format mode (sum format x y)

pub difference_once : (format : Format) (mode : Round) (x y : Datum) → Once (IsDifference format mode x y)
difference_once format mode x y = yields_once format mode (difference format x y)

pub product_once : (format : Format) (mode : Round) (x y : Datum) → Once (IsProduct format mode x y)
product_once format mode x y = yields_once format mode (product format x y)

pub quotient_once : (format : Format) (mode : Round) (x y : Datum) → Once (IsQuotient format mode x y)
quotient_once format mode x y = yields_once format mode (quotient format x y)

pub root_once : (format : Format) (mode : Round) (x : Datum) → Once (IsRoot format mode x)
root_once format mode x = yields_once format mode (root format x)

pub fused_sum_once : (format : Format) (mode : Round) (x y z : Datum) → Once (IsFusedSum format mode x y z)
fused_sum_once format mode x y z = yields_once format mode (fused_sum format x y z)

-- a scaling has at most one value
pub scaling_once : (format : Format) (mode : Round) (x : Datum) (j : ℤ) (value other : Datum)
    → IsScaling format mode x j value → IsScaling format mode x j other → value ≡ other
scaling_once format mode (nan b s) j v w h k = h ∙ sym k
scaling_once format mode (infinite b) j v w h k = h ∙ sym k
scaling_once format mode (finite b n) j v w h k = (delivered_once format mode b _ _ v w h.0 k.0 h.1 k.1).0

pub from_unsigned_once : (format : Format) (mode : Round) (number : ℕ) → Once (IsFromUnsigned format mode number)
from_unsigned_once format mode number = yields_once format mode (from_unsigned format number)

pub from_signed_once : (format : Format) (mode : Round) (number : ℤ) → Once (IsFromSigned format mode number)
from_signed_once format mode number = yields_once format mode (from_signed format number)

pub round_to_integral_once : (format : Format) (mode : Round) (x : Datum) → Once (IsRoundToIntegral format mode x)
round_to_integral_once format mode x = yields_once format mode (integral format mode x)

-- a conversion to an integer determines the number, the status and whether it is exact
pub whole_once : (whole : Whole) (m n : ℤ) (r s : ℕ) (exact other : Bool) → IsWhole whole m r exact
    → IsWhole whole n s other → (m ≡ n) × (r ≡ s) × (exact ≡ other)
whole_once whole m n r s a b x y =
    (x.number_is ∙ sym y.number_is, x.status_is ∙ sym y.status_is, x.is_exact_is ∙ sym y.is_exact_is)

pub remainder_once : (format : Format) (quotient : ℕ → ℕ → ℕ) (x y : Datum) → Once (IsRemainder format quotient x y)
remainder_once format quotient x y = yields_once format NearestTiesToEven (remainder format quotient x y)

-- ---- conversions

-- the relation determines the value, the status, and whether information is lost
abbrev pub OnceWith : (Datum → ℕ → Bool → Type 0) → Type 0
OnceWith R = (v w : Datum) (r s : ℕ) (a b : Bool) → R v r a → R w s b → (v ≡ w) × (r ≡ s) × (a ≡ b)

-- a conversion given outright
converted_once : (datum : Datum) (t : ℕ) (loses : Bool) → OnceWith (IsConverted datum t loses)
converted_once d t l v w r s a b x y =
    (x.value_is ∙ sym y.value_is, x.status_is ∙ sym y.status_is, x.loses_is ∙ sym y.loses_is)

-- the conversion of a number, which is rounded
number_once : (from into : Format) (mode : Round) (negative : Bool) (quanta : ℕ)
    → OnceWith (IsConvertedNumber from into mode negative quanta)
number_once from into mode negative quanta v w r s a b x y =
    let e = delivered_once into mode negative _ _ v w r s x.is_delivered y.is_delivered in
    (e.0, e.1, x.loses_is ∙ ap (λ (t : ℕ). not (eqb t ok_bits)) e.1 ∙ sym y.loses_is)

-- each datum has at most one conversion
pub conversion_once : (from into : Format) (mode : Round) (x : Datum) → OnceWith (IsConversion from into mode x)
conversion_once from into mode (nan b s) = converted_once _ _ _
conversion_once from into mode (infinite b) = converted_once _ _ _
conversion_once from into mode (finite b zero) = converted_once _ _ _
conversion_once from into mode (finite b (suc n)) =
    rw (not_zero (suc n) (omega arith)) (number_once from into mode b (suc n))

-- ---- neighbours

-- a number has at most one neighbour of lesser magnitude
next_less_once : (format : Format) (quanta : ℕ) → Once (IsNextLess format quanta)
next_less_once format quanta v w r s x y =
    let e : x.next ≡ y.next = below_unique format.precision x.next y.next (quanta - 1) 1 x.is_below y.is_below in (
      x.is.value_is ∙ ap (λ (n : ℕ). signed_quanta format.nonfinite true n) e ∙ sym y.is.value_is,
      x.is.status_is ∙
          sym y.is.status_is,
    )

-- a number has at most one neighbour of greater magnitude
next_greater_once : (format : Format) (quanta : ℕ) → Once (IsNextGreater format quanta)
next_greater_once format quanta v w r s x y =
    let e : x.next ≡ y.next = above_unique format.precision x.next y.next (quanta + 1) 1 x.is_above y.is_above in
    (x.is.value_is ∙ ap (λ (n : ℕ). finite false n) e ∙ sym y.is.value_is, x.is.status_is ∙ sym y.is.status_is)

-- a nonzero number has at most one neighbour above
next_of_number_once : (format : Format) (negative : Bool) (quanta : ℕ) → Once (IsNextOfNumber format negative quanta)
next_of_number_once format true quanta = next_less_once format quanta
next_of_number_once format false quanta =
    match_case Once (eqb quanta (largest format)) (IsAnswer _ _) (IsNextGreater format quanta) (answer_once _ _)
    (next_greater_once format quanta)

-- each datum has at most one neighbour above
pub next_up_once : (format : Format) (x : Datum) → Once (IsNextUp format x)
next_up_once format (nan b s) =
    match_case Once (is_signaling format s) (IsAnswer _ _) (IsAnswer _ _) (answer_once _ _) (answer_once _ _)
next_up_once format (infinite b) = match_case Once b (IsAnswer _ _) (IsAnswer _ _) (answer_once _ _) (answer_once _ _)
next_up_once format (finite b n) =
    match_case Once (eqb n 0) (IsAnswer _ _) (IsNextOfNumber format b n) (answer_once _ _)
    (next_of_number_once format b n)

-- each datum has at most one neighbour below
pub next_down_once : (format : Format) (x : Datum) → Once (IsNextDown format x)
next_down_once format x v w r s h k =
    let e = next_up_once format (negated format.nonfinite x) h.up_of_negated k.up_of_negated r s h.is_next_up
    k.is_next_up in
    (h.is ∙ ap (λ (d : Datum). negated format.nonfinite d) e.0 ∙ sym k.is, e.1)
