-- OVERFLOW and UNDERFLOW are raised only together with INEXACT, by each operation.
use Rattle.std.proofs.Common.{ℕ, ◌-◌, ◌^◌, ◌<◌, ◌≤◌, Bool, true, false, not, eqb, sym, subst}
use Rattle.std.proofs.{Common.⊎_elim, lemmas.Bool.cases_lt}
use Rattle.std.specs.Prelude.{ℤ, pos, neg_ℤ, int_lt, List}
use Rattle.apfloat_model.specs.declared.kinds.Round.{Round, TheVariants.NearestTiesToEven}
use Rattle.apfloat_model.specs.formats.Format.{Format, largest}
use Rattle.apfloat_model.specs.formats.Datum.{Datum, finite, infinite, nan}
use Rattle.apfloat_model.specs.{formats.Constants.infinity_of, formats.Nan.is_signaling, rounding.Rounding.zero_sign}
use Rattle.apfloat_model.specs.rounding.{Negation.negated, RaisedFlags.FlagsGoTogether, Answer.IsAnswer}
use Rattle.apfloat_model.specs.arithmetic.NextUp.{IsNextGreater, IsNextLess, IsNextOfNumber, IsNextUp, IsNextDown}
use Rattle.apfloat_model.specs.arithmetic.Conversions.{has_infinities, loses_zero_sign, IsKept, IsConvertedNumber}
use Rattle.apfloat_model.specs.arithmetic.{Conversions.IsConversion, Sums.IsSum, Sums.IsDifference, Products.IsProduct}
use Rattle.apfloat_model.specs.arithmetic.{Quotients.IsQuotient, Roots.IsRoot, FusedSums.IsFusedSum}
use Rattle.apfloat_model.specs.arithmetic.Remainders.{IsRemainder}
use Rattle.apfloat_model.specs.whole_numbers.WholeNumbersOut.{Whole, whole_within, IsToUnsigned, IsToSigned}
use Rattle.apfloat_model.specs.whole_numbers.{SignedWholes.IsNegatedWhole, WholeNumbers.from_unsigned}
use Rattle.apfloat_model.specs.whole_numbers.WholeNumbers.{from_signed, IsFromUnsigned, IsFromSigned, IsRoundToIntegral}
use Rattle.apfloat_model.specs.texts.Specials.{TextMeaning, infinity, not_a_number, hexadecimal}
use Rattle.apfloat_model.specs.texts.Readings.{IsMeant, IsReading}
use Rattle.apfloat_model.proofs.general.Choices.{match_case, if_case}
use Rattle.apfloat_model.proofs.Outcomes.{yields_together, sum_sound, difference_sound, product_sound, quotient_sound}
use Rattle.apfloat_model.proofs.Outcomes.{root_sound, fused_sum_sound, remainder_sound, from_unsigned_sound}
use Rattle.apfloat_model.proofs.Outcomes.{from_signed_sound, integral_sound}
pub use Rattle.apfloat_model.proofs.rounding.StatusesTogether.{Together, inexact_together, ok_together}
pub use Rattle.apfloat_model.proofs.rounding.StatusesTogether.{invalid_together, invalid_if_together}
pub use Rattle.apfloat_model.proofs.rounding.StatusesTogether.{only_inexact_together, inexact_unless_together}
pub use Rattle.apfloat_model.proofs.rounding.StatusesTogether.{union_keeps, union_together}
pub use Rattle.apfloat_model.proofs.rounding.StatusesTogether.{delivered_together, answer_together}

-- ---- arithmetic

pub sum_together : (format : Format) (mode : Round) (x y : Datum) → Together (IsSum format mode x y)
sum_together format mode x y = yields_together format mode _ (sum_sound format x y)

pub difference_together : (format : Format) (mode : Round) (x y : Datum) → Together (IsDifference format mode x y)
difference_together format mode x y = yields_together format mode _ (difference_sound format x y)

pub product_together : (format : Format) (mode : Round) (x y : Datum) → Together (IsProduct format mode x y)
product_together format mode x y = yields_together format mode _ (product_sound format x y)

pub quotient_together : (format : Format) (mode : Round) (x y : Datum) → Together (IsQuotient format mode x y)
quotient_together format mode x y = yields_together format mode _ (quotient_sound format x y)

pub root_together : (format : Format) (mode : Round) (x : Datum) → Together (IsRoot format mode x)
root_together format mode x = yields_together format mode _ (root_sound format x)

pub fused_sum_together : (format : Format) (mode : Round) (x y z : Datum) → Together (IsFusedSum format mode x y z)
fused_sum_together format mode x y z = yields_together format mode _ (fused_sum_sound format x y z)

-- for any integer quotient: truncated toward zero or the nearest
pub remainder_together : (format : Format) (quotient : ℕ → ℕ → ℕ) (x y : Datum)
    → Together (IsRemainder format quotient x y)
remainder_together format quotient x y =
    yields_together format NearestTiesToEven _ (remainder_sound format quotient x y)

-- ---- neighbours

next_less_together : (format : Format) (quanta : ℕ) → Together (IsNextLess format quanta)
next_less_together format quanta value status x = answer_together _ _ ok_together value status x.is

next_greater_together : (format : Format) (quanta : ℕ) → Together (IsNextGreater format quanta)
next_greater_together format quanta value status x = answer_together _ _ ok_together value status x.is

next_of_number_together : (format : Format) (negative : Bool) (quanta : ℕ)
    → Together (IsNextOfNumber format negative quanta)
next_of_number_together format true quanta = next_less_together format quanta
next_of_number_together format false quanta =
    match_case Together (eqb quanta (largest format)) (IsAnswer _ _) (IsNextGreater format quanta)
    (answer_together _ _ ok_together) (next_greater_together format quanta)

pub next_up_together : (format : Format) (x : Datum) → Together (IsNextUp format x)
next_up_together format (nan b s) =
    match_case Together (is_signaling format s) (IsAnswer _ _) (IsAnswer _ _) (answer_together _ _ invalid_together)
    (answer_together _ _ ok_together)
next_up_together format (infinite b) =
    match_case Together b (IsAnswer _ _) (IsAnswer _ _) (answer_together _ _ ok_together)
    (answer_together _ _ ok_together)
next_up_together format (finite b n) =
    match_case Together (eqb n 0) (IsAnswer _ _) (IsNextOfNumber format b n) (answer_together _ _ ok_together)
    (next_of_number_together format b n)

pub next_down_together : (format : Format) (x : Datum) → Together (IsNextDown format x)
next_down_together format x value status h =
    next_up_together format (negated format.nonfinite x) h.up_of_negated status h.is_next_up

-- ---- conversions

kept_together : (given : Datum) (loses loses_info : Bool)
    → Together (λ value status. IsKept given loses value status loses_info)
kept_together given loses loses_info value status h =
    subst FlagsGoTogether (sym h.status_is)
    (if_case FlagsGoTogether loses (λ l. only_inexact_together) (λ k. ok_together))

pub conversion_together : (from into : Format) (mode : Round) (x : Datum) (loses_info : Bool)
    → Together (λ value status. IsConversion from into mode x value status loses_info)
conversion_together from into mode (nan b s) loses_info value status h =
    subst FlagsGoTogether (sym h.status_is) (invalid_if_together (is_signaling from s))
conversion_together from into mode (infinite b) loses_info value status h =
    kept_together (infinity_of into b) (not (has_infinities into.nonfinite)) loses_info value status h
conversion_together from into mode (finite b n) loses_info value status h =
    match_case Together (eqb n 0)
    (λ v s. IsKept (finite (zero_sign into.nonfinite b) 0) (loses_zero_sign into b) v s loses_info)
    (λ v s. IsConvertedNumber from into mode b n v s loses_info)
    (kept_together (finite (zero_sign into.nonfinite b) 0) (loses_zero_sign into b) loses_info)
    (λ v s k. delivered_together into mode b _ _ v s k.is_delivered) value status h

-- ---- integers

pub from_unsigned_together : (format : Format) (mode : Round) (number : ℕ)
    → Together (IsFromUnsigned format mode number)
from_unsigned_together format mode number =
    yields_together format mode (from_unsigned format number) (from_unsigned_sound format number)

pub from_signed_together : (format : Format) (mode : Round) (number : ℤ) → Together (IsFromSigned format mode number)
from_signed_together format mode number =
    yields_together format mode (from_signed format number) (from_signed_sound format number)

pub round_to_integral_together : (format : Format) (mode : Round) (x : Datum)
    → Together (IsRoundToIntegral format mode x)
round_to_integral_together format mode x = yields_together format mode _ (integral_sound format mode x)

-- conversion to an integer in any range
whole_within_together : (format : Format) (mode : Round) (low high : ℤ) (x : Datum)
    → FlagsGoTogether (whole_within format mode low high x).status
whole_within_together format mode low high (nan b s) = invalid_together
whole_within_together format mode low high (infinite b) = invalid_together
whole_within_together format mode low high (finite b n) =
    if_case (λ (whole : Whole). FlagsGoTogether whole.status) (int_lt _ low) (λ below. invalid_together)
    (λ from. if_case (λ (whole : Whole). FlagsGoTogether whole.status) (int_lt high _) (λ past. invalid_together)
    (λ to. inexact_unless_together _))

pub to_unsigned_together : (format : Format) (mode : Round) (width : ℕ) (x : Datum) (number status : ℕ)
    (is_exact : Bool) → IsToUnsigned format mode width x number status is_exact → FlagsGoTogether status
to_unsigned_together format mode width x number status is_exact h =
    subst FlagsGoTogether (sym h.status_is) (whole_within_together format mode (pos 0) (pos (2 ^ width - 1)) x)

pub to_signed_together : (format : Format) (mode : Round) (width : ℕ) (x : Datum) (number : ℤ) (status : ℕ)
    (is_exact : Bool) → IsToSigned format mode width x number status is_exact → FlagsGoTogether status
to_signed_together format mode width x number status is_exact h =
    subst FlagsGoTogether (sym h.status_is)
    (whole_within_together format mode (neg_ℤ (pos (2 ^ (width - 1)))) (pos (2 ^ (width - 1) - 1)) x)

-- conversion to a signed integer, from the magnitude
pub negated_whole_together : (is_zero : Bool) (width number flags : ℕ) (exact : Bool) (value : ℤ) (status : ℕ)
    (is_exact : Bool) → FlagsGoTogether flags
    → IsNegatedWhole is_zero width number flags exact value status is_exact → FlagsGoTogether status
negated_whole_together is_zero width number flags exact value status is_exact f h =
    ⊎_elim (λ (past : 2 ^ (width - 1) < number). subst FlagsGoTogether (sym (h.past past).0) invalid_together)
    (λ (within : number ≤ 2 ^ (width - 1)). subst FlagsGoTogether (sym (h.within within).0) f)
    (cases_lt (2 ^ (width - 1)) number)

-- ---- texts

meant_together : (format : Format) (mode : Round) (meaning : TextMeaning) → Together (IsMeant format mode meaning)
meant_together format mode (infinity negative) = answer_together _ _ ok_together
meant_together format mode (not_a_number negative signaling payload) = answer_together _ _ ok_together
meant_together format mode (hexadecimal negative h places e) = delivered_together format mode _ _ _

pub reading_together : (format : Format) (mode : Round) (text : List ℕ) → Together (IsReading format mode text)
reading_together format mode text value status x = meant_together format mode x.meaning value status x.is_meant
