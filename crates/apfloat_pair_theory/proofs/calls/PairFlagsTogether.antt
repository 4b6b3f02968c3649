-- OVERFLOW and UNDERFLOW are raised only together with INEXACT, by each operation on pairs.
use Rattle.std.proofs.Common.{ℕ, ◌-◌, Bool}
use Rattle.std.specs.Prelude.{ℤ, pos, unsigned_abs, int_lt, List}
use Rattle.apfloat_model.specs.{declared.kinds.Round.Round, formats.Datum.Datum, rounding.Negation.swapped}
use Rattle.apfloat_model.specs.{rounding.RaisedFlags.FlagsGoTogether, order.Classes.is_negative, order.Classes.is_zero}
use Rattle.apfloat_model.specs.arithmetic.{Quotients.IsQuotient, Roots.IsRoot, Remainders.IsTruncatedRemainder}
use Rattle.apfloat_model.specs.arithmetic.Remainders.{IsNearestRemainder, truncated_quotient, nearest_quotient}
use Rattle.apfloat_model.specs.{arithmetic.NextUp.IsNextUp, whole_numbers.WholeNumbers.IsFromUnsigned}
use Rattle.apfloat_model.specs.{whole_numbers.WholeNumbers.IsRoundToIntegral, texts.Readings.IsReading}
use Rattle.apfloat_model.proofs.general.Choices.{match_case, match_three}
use Rattle.apfloat_model.proofs.rounding.FlagsTogether.{Together, quotient_together, root_together, remainder_together}
use Rattle.apfloat_model.proofs.rounding.FlagsTogether.{round_to_integral_together, next_up_together, reading_together}
use Rattle.apfloat_model.proofs.rounding.FlagsTogether.{from_unsigned_together, to_unsigned_together}
use Rattle.apfloat_model.proofs.{rounding.FlagsTogether.negated_whole_together, Steps.leads_together}
use Rattle.apfloat_pair_theory.specs.PairFormats.{double, wide}
use Rattle.apfloat_pair_theory.specs.Pairs.{Pair, negated_pair, IsSplitAnswer, IsWideAnswer, IsWideAnswerOfTwo}
use Rattle.apfloat_pair_theory.specs.PairSums.{pair_sum, IsPairSum, IsPairDifference}
use Rattle.apfloat_pair_theory.specs.PairProducts.{pair_product, IsPairProduct}
use Rattle.apfloat_pair_theory.specs.PairCalls.{IsPairQuotient, IsPairTruncatedRemainder, IsPairNearestRemainder}
use Rattle.apfloat_pair_theory.specs.PairCalls.{IsPairRoundToIntegral, IsPairNextUp, IsPairNextDown, IsPairReading}
use Rattle.apfloat_pair_theory.specs.PairCalls.{IsPairFromUnsigned, IsPairFromNegative, IsPairFromSigned}
use Rattle.apfloat_pair_theory.specs.PairCalls.{IsPairToUnsigned, IsPairToNegative, IsPairToNatural, IsPairToSigned}
use Rattle.apfloat_pair_theory.specs.PairRoots.{IsPairRoot}
use Rattle.apfloat_pair_theory.proofs.{sums.SumsSound.pair_sum_sound, products.ProductsSound.pair_product_sound}

-- ---- chains of steps

pub pair_sum_together : (mode : Round) (x y : Pair) → Together (IsPairSum mode x y)
pair_sum_together mode x y = leads_together double mode (pair_sum x y) (pair_sum_sound x y)

pub pair_difference_together : (mode : Round) (x y : Pair) → Together (IsPairDifference mode x y)
pair_difference_together mode x y = pair_sum_together mode x (negated_pair y)

pub pair_product_together : (mode : Round) (x y : Pair) → Together (IsPairProduct mode x y)
pair_product_together mode x y = leads_together double mode (pair_product x y) (pair_product_sound x y)

-- ---- in the wide format, whose status it is

split_together : (call : Datum → ℕ → Type 0) → Together call → Together (IsSplitAnswer call)
split_together call h answer status x = h x.value status x.is_value

of_one_together : (call : Datum → Datum → ℕ → Type 0) → ((joined : Datum) → Together (call joined))
    → (x : Pair) → Together (IsWideAnswer call x)
of_one_together call h x answer status w = split_together (call w.joined) (h w.joined) answer status w.is_answer

of_two_together : (call : Datum → Datum → Datum → ℕ → Type 0)
    → ((left right : Datum) → Together (call left right)) → (x y : Pair) → Together (IsWideAnswerOfTwo call x y)
of_two_together call h x y answer status w =
    split_together (call w.left w.right) (h w.left w.right) answer status w.is_answer

pub pair_quotient_together : (mode : Round) (x y : Pair) → Together (IsPairQuotient mode x y)
pair_quotient_together mode x y = of_two_together (IsQuotient wide mode) (quotient_together wide mode) x y

pub pair_root_together : (mode : Round) (x : Pair) → Together (IsPairRoot mode x)
pair_root_together mode x = of_one_together (IsRoot wide mode) (root_together wide mode) x

pub pair_truncated_remainder_together : (x y : Pair) → Together (IsPairTruncatedRemainder x y)
pair_truncated_remainder_together x y =
    of_two_together (IsTruncatedRemainder wide) (remainder_together wide truncated_quotient) x y

pub pair_nearest_remainder_together : (x y : Pair) → Together (IsPairNearestRemainder x y)
pair_nearest_remainder_together x y =
    of_two_together (IsNearestRemainder wide) (remainder_together wide nearest_quotient) x y

pub pair_round_to_integral_together : (mode : Round) (x : Pair) → Together (IsPairRoundToIntegral mode x)
pair_round_to_integral_together mode x =
    of_one_together (IsRoundToIntegral wide mode) (round_to_integral_together wide mode) x

pub pair_next_up_together : (x : Pair) → Together (IsPairNextUp x)
pair_next_up_together x = of_one_together (IsNextUp wide) (next_up_together wide) x

pub pair_next_down_together : (x : Pair) → Together (IsPairNextDown x)
pair_next_down_together x answer status h = pair_next_up_together (negated_pair x) h.up_of_negated status h.is_next_up

pub pair_reading_together : (mode : Round) (text : List ℕ) → Together (IsPairReading mode text)
pair_reading_together mode text = split_together (IsReading wide mode text) (reading_together wide mode text)

-- ---- integers

pub pair_from_unsigned_together : (mode : Round) (number : ℕ) → Together (IsPairFromUnsigned mode number)
pair_from_unsigned_together mode number =
    split_together (IsFromUnsigned wide mode number) (from_unsigned_together wide mode number)

from_negative_together : (mode : Round) (magnitude : ℕ) → Together (IsPairFromNegative mode magnitude)
from_negative_together mode magnitude answer status h =
    pair_from_unsigned_together (swapped mode) magnitude h.positive status h.is_positive

pub pair_from_signed_together : (mode : Round) (number : ℤ) → Together (IsPairFromSigned mode number)
pair_from_signed_together mode number =
    match_case Together (int_lt number (pos 0)) (IsPairFromNegative mode (unsigned_abs number))
    (IsPairFromUnsigned mode (unsigned_abs number)) (from_negative_together mode (unsigned_abs number))
    (pair_from_unsigned_together mode (unsigned_abs number))

-- the relation of a number, a status and whether the number is exact holds only of statuses whose flags go together
abbrev pub WholeTogether : {N : Type 0} → (N → ℕ → Bool → Type 0) → Type 0
WholeTogether {N} R = (number : N) (status : ℕ) (is_exact : Bool) → R number status is_exact → FlagsGoTogether status

pub pair_to_unsigned_together : (mode : Round) (width : ℕ) (x : Pair) → WholeTogether (IsPairToUnsigned mode width x)
pair_to_unsigned_together mode width x number status is_exact h =
    to_unsigned_together wide mode width h.joined number status is_exact h.is

to_negative_together : (mode : Round) (width : ℕ) (x : Pair) → WholeTogether (IsPairToNegative mode width x)
to_negative_together mode width x number status is_exact h =
    negated_whole_together (is_zero x.high) width h.magnitude h.flags h.exact number status is_exact
    (pair_to_unsigned_together (swapped mode) width (negated_pair x) h.magnitude h.flags h.exact h.is_magnitude) h.is

to_natural_together : (mode : Round) (width : ℕ) (x : Pair) → WholeTogether (IsPairToNatural mode width x)
to_natural_together mode width x number status is_exact h =
    pair_to_unsigned_together mode width x h.magnitude status is_exact h.is_magnitude

pub pair_to_signed_together : (mode : Round) (width : ℕ) (x : Pair) → WholeTogether (IsPairToSigned mode width x)
pair_to_signed_together mode width x =
    match_three WholeTogether (is_negative x.high) (IsPairToNegative mode width x) (IsPairToNatural mode (width - 1) x)
    (to_negative_together mode width x) (to_natural_together mode (width - 1) x)
