-- Each operation of a machine has one answer.
use Rattle.std.proofs.Common.{ℕ, Bool, false, sym, ◌∙◌, ◌||◌}
use Rattle.std.specs.Bool.{MatchBool}
use Rattle.apfloat_model.specs.{declared.kinds.Round.Round, formats.Format.Format, formats.Datum.Datum}
use Rattle.apfloat_model.specs.{rounding.Answer.IsAnswer, order.Classes.is_nan, arithmetic.Conversions.IsConversion}
use Rattle.apfloat_model.specs.{whole_numbers.WholeNumbers.IsRoundToIntegral}
use Rattle.apfloat_model.specs.arithmetic.{Sums.IsSum, Sums.IsDifference, Products.IsProduct, Quotients.IsQuotient}
use Rattle.apfloat_model.specs.arithmetic.{Remainders.nearest_quotient, Roots.IsRoot, FusedSums.IsFusedSum}
use Rattle.apfloat_model.specs.arithmetic.Remainders.{IsTruncatedRemainder, IsNearestRemainder, truncated_quotient}
use Rattle.apfloat_model.proofs.{Once.round_to_integral_once, Determined.same_answer, Determined.gives_once}
use Rattle.apfloat_model.proofs.Once.{Once, answer_once, sum_once, difference_once, product_once, quotient_once}
use Rattle.apfloat_model.proofs.Once.{remainder_once, root_once, fused_sum_once, conversion_once}
use Rattle.apfloat_model.proofs.general.Choices.{match_case}
use Rattle.ieee_operations.specs.WholeNumbers.{IsRoundedToIntegral}
use Rattle.ieee_operations.proofs.IntegralOnce.{integral_once}
use Rattle.apfloat_machines.specs.{Conversions.is_lost_nan, Theorems.HaveOneAnswer, declared.machine.Machine.Machine}
use Rattle.apfloat_machines.specs.{Extended.IsExtendedProduct, Operations.IsMachineProduct, Theorems.IsOnce}
use Rattle.apfloat_machines.specs.Invalid.{is_invalid_sum, is_invalid_difference, is_invalid_product}
use Rattle.apfloat_machines.specs.Invalid.{is_invalid_quotient, is_invalid_remainder, is_invalid_root, is_invalid_fused}
use Rattle.apfloat_machines.specs.Operations.{is_nan_of_three, IsOfTwo, IsOfThree}
use Rattle.apfloat_machines.specs.Theorems.{ConversionsHaveOneAnswer, WholeNumbersHaveOneAnswer, FusedSumsHaveOneAnswer}

pub of_two_once : (f : Format) (machine : Machine) (x y : Datum) (invalid : Bool) (Says : Datum → ℕ → Type 0)
    → Once Says → Once (IsOfTwo f machine x y invalid Says)
of_two_once f machine x y invalid Says once =
    match_case Once (is_nan x || is_nan y) (IsAnswer _ _) (λ v s. MatchBool invalid (IsAnswer _ _ v s) (Says v s))
    (answer_once _ _) (match_case Once invalid (IsAnswer _ _) Says (answer_once _ _) once)

pub operations_once : (f : Format) (machine : Machine) → HaveOneAnswer f machine
operations_once f machine =
    record {
      sum = λ mode x y. gives_once _ (of_two_once f machine x y (is_invalid_sum x y) (IsSum f mode x y)
          (sum_once f mode x y));
      difference = λ mode x y. gives_once _ (of_two_once f machine x y (is_invalid_difference x y)
          (IsDifference f mode x y) (difference_once f mode x y));
      product = λ mode x y. gives_once _ (of_two_once f machine x y (is_invalid_product x y) (IsProduct f mode x y)
          (product_once f mode x y));
      quotient = λ mode x y. gives_once _ (of_two_once f machine x y (is_invalid_quotient x y) (IsQuotient f mode x y)
          (quotient_once f mode x y));
      truncated = λ x y. gives_once _ (of_two_once f machine x y (is_invalid_remainder x y)
          (IsTruncatedRemainder f x y) (remainder_once f truncated_quotient x y));
      nearest = λ x y. gives_once _ (of_two_once f machine x y (is_invalid_remainder x y)
          (IsNearestRemainder f x y) (remainder_once f nearest_quotient x y));
      root = λ mode x. gives_once _ (of_two_once f machine x x (is_invalid_root x) (IsRoot f mode x)
          (root_once f mode x));
      exact = λ mode x. gives_once _ (of_two_once f machine x x false (IsRoundToIntegral f mode x)
          (round_to_integral_once f mode x));
      integral = λ mode x. gives_once _ (of_two_once f machine x x false (IsRoundedToIntegral f mode x)
          (integral_once f mode x));
    }

pub extended_product_once : (f : Format) (machine : Machine) (mode : Round) (x y : Datum)
    → IsOnce (IsExtendedProduct f machine mode x y)
extended_product_once f machine mode x y =
    gives_once _ (match_case Once (is_invalid_product x y) (IsAnswer _ _) (IsMachineProduct f machine mode x y)
    (answer_once _ _) (of_two_once f machine x y (is_invalid_product x y) (IsProduct f mode x y)
    (product_once f mode x y)))

pub of_three_once : (f : Format) (machine : Machine) (x y z : Datum) (Says : Datum → ℕ → Type 0)
    → Once Says → Once (IsOfThree f machine x y z Says)
of_three_once f machine x y z Says once =
    match_case Once (is_nan_of_three x y z) (IsAnswer _ _)
    (λ v s. MatchBool (is_invalid_fused x y z) (IsAnswer _ _ v s) (Says v s)) (answer_once _ _)
    (match_case Once (is_invalid_fused x y z) (IsAnswer _ _) Says (answer_once _ _) once)

pub fused_sums_once : FusedSumsHaveOneAnswer
fused_sums_once f machine mode x y z =
    gives_once _ (of_three_once f machine x y z (IsFusedSum f mode x y z) (fused_sum_once f mode x y z))

-- whatever it says of the loss of information
pub converted_once : (f g : Format) (mode : Round) (x : Datum)
    → Once (λ v s. (loses : Bool) × IsConversion f g mode x v s loses)
converted_once f g mode x v w r s h k =
    let e = conversion_once f g mode x v w r s h.0 k.0 h.1 k.1 in (e.0, e.1)

pub conversions_once : ConversionsHaveOneAnswer
conversions_once f g machine mode x =
    gives_once _ (match_case Once (is_lost_nan f machine x) (IsAnswer _ _)
    (λ v s. (loses : Bool) × IsConversion f g mode x v s loses) (answer_once _ _) (converted_once f g mode x))

pub whole_numbers_once : WholeNumbersHaveOneAnswer
whole_numbers_once machine x of_nan whole answer other h k =
    same_answer answer other (h.number_is ∙ sym k.number_is) (h.status_is ∙ sym k.status_is)
