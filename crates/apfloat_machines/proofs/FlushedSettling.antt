-- What a machine makes of a flushed answer is what its definition says of the operation with flushing.
use Rattle.std.proofs.Common.{◌≡◌}
use Rattle.apfloat_model.specs.declared.{kinds.NonfiniteBehavior.TheVariants.IEEE754, status.StatusAnd.StatusAnd}
use Rattle.apfloat_model.specs.rounding.{Flags.bits_of, Answer.IsAnswer}
use Rattle.apfloat_model.specs.{formats.Format.Format, formats.Datum.Datum, arithmetic.Sums.sum}
use Rattle.apfloat_model.specs.arithmetic.{Sums.difference, Products.product, Quotients.quotient, FusedSums.fused_sum}
use Rattle.apfloat_model.proofs.{Once.Once, Once.answer_once, Determined.gives_once, general.Choices.match_case}
use Rattle.apfloat_machines.specs.declared.{machine.Machine.Machine, flushing.Flush.Flush}
use Rattle.apfloat_machines.specs.{Nans.settled, Invalid.is_invalid_sum}
use Rattle.apfloat_machines.specs.Invalid.{is_invalid_difference, is_invalid_product, is_invalid_quotient}
use Rattle.apfloat_machines.specs.{Operations.settled_fused, Operations.settled_fused_flags, Conversions.is_lost_nan}
use Rattle.apfloat_machines.specs.FlushedOperations.{IsFlushedSum, IsFlushedDifference, IsFlushedProduct}
use Rattle.apfloat_machines.specs.FlushedOperations.{IsFlushedQuotient, IsFlushedFusedSum, IsFlushedConversion}
use Rattle.apfloat_machines.specs.FlushedMachines.{AreFlushedAndSettled, IsFlushedAndSettledFused}
use Rattle.apfloat_machines.specs.FlushedMachines.{FlushedMachinesHaveOneAnswer}
use Rattle.apfloat_machines.proofs.{Settling.of_two, Settling.of_three, Once.of_two_once, Once.of_three_once}
use Rattle.apfloat_machines.proofs.Usual.{sum_usual, difference_usual, product_usual, quotient_usual, fused_usual}
use Rattle.apfloat_machines.proofs.FlushedUsual.{flushed_settled_or_number}
use Rattle.apfloat_machines.proofs.FlushedAnswers.{yields_flushed_once, conversion_with_flush}

-- ---- two operands

pub are_flushed_and_settled : (f : Format) (machine : Machine)
    (flush : Flush) (x y : Datum) (answer result : StatusAnd Datum) → result.value ≡ settled f machine x y answer.value
    → result.status ≡ answer.status → f.nonfinite ≡ IEEE754 → AreFlushedAndSettled f machine flush x y answer result
are_flushed_and_settled f machine flush x y answer result v s e =
    let a = answer.value in
    let r = bits_of answer.status in
    rw (v, s) (record {
      sum = λ mode h. of_two f machine x y (is_invalid_sum x y) (IsFlushedSum f flush mode x y) a r
          (sum_usual f x y a r (flushed_settled_or_number f flush mode (sum f x y) a r e h)) h;
      difference = λ mode h. of_two f machine x y (is_invalid_difference x y) (IsFlushedDifference f flush mode x y) a r
          (difference_usual f x y a r (flushed_settled_or_number f flush mode (difference f x y) a r e h)) h;
      product = λ mode h. of_two f machine x y (is_invalid_product x y) (IsFlushedProduct f flush mode x y) a r
          (product_usual f x y a r (flushed_settled_or_number f flush mode (product f x y) a r e h)) h;
      quotient = λ mode h. of_two f machine x y (is_invalid_quotient x y) (IsFlushedQuotient f flush mode x y) a r
          (quotient_usual f x y a r e (flushed_settled_or_number f flush mode (quotient f x y) a r e h)) h;
    })

-- ---- fused sums

pub fused_is_flushed_and_settled : (f : Format) (machine : Machine) (x y z : Datum)
    (answer result : StatusAnd Datum) → result.value ≡ settled_fused f machine x y z answer.value
    → bits_of result.status ≡ settled_fused_flags f machine x y z answer.value (bits_of answer.status)
    → IsFlushedAndSettledFused f machine x y z answer result
fused_is_flushed_and_settled f machine x y z answer result v s e flush mode h =
    rw (v, s) (of_three f machine x y z (IsFlushedFusedSum f flush mode x y z) answer.value (bits_of answer.status)
    (fused_usual f x y z answer.value (bits_of answer.status)
    (flushed_settled_or_number f flush mode (fused_sum f x y z) answer.value (bits_of answer.status) e h)) h)

-- ---- one answer

pub flushed_machines_once : (f : Format) (machine : Machine) (flush : Flush)
    → FlushedMachinesHaveOneAnswer f machine flush
flushed_machines_once f machine flush =
    record {
      sum = λ mode x y. gives_once _ (of_two_once f machine x y (is_invalid_sum x y)
          (IsFlushedSum f flush mode x y) (yields_flushed_once f flush mode (sum f x y)));
      difference = λ mode x y. gives_once _ (of_two_once f machine x y (is_invalid_difference x y)
          (IsFlushedDifference f flush mode x y) (yields_flushed_once f flush mode (difference f x y)));
      product = λ mode x y. gives_once _ (of_two_once f machine x y (is_invalid_product x y)
          (IsFlushedProduct f flush mode x y) (yields_flushed_once f flush mode (product f x y)));
      quotient = λ mode x y. gives_once _ (of_two_once f machine x y (is_invalid_quotient x y)
          (IsFlushedQuotient f flush mode x y) (yields_flushed_once f flush mode (quotient f x y)));
      fused_sum = λ mode x y z. gives_once _ (of_three_once f machine x y z (IsFlushedFusedSum f flush mode x y z)
          (yields_flushed_once f flush mode (fused_sum f x y z)));
      conversion = λ source mode x. gives_once _ (match_case Once (is_lost_nan source machine x) (IsAnswer _ _)
          (IsFlushedConversion source f flush mode x) (answer_once _ _) (conversion_with_flush source f flush mode x));
    }
