-- OVERFLOW and UNDERFLOW are raised only together with INEXACT, by the operations of a machine.
use Rattle.std.proofs.Common.{◌≡◌, ℕ, ◌+◌, Bool, true, false, not, ◌&&◌, ◌||◌, eqb, refl, sym, ◌∙◌, subst, lit<}
use Rattle.std.proofs.Common.{if◌then◌else◌}
use Rattle.std.specs.{Prelude.ℤ, Bool.MatchBool}
use Rattle.apfloat_model.specs.{declared.kinds.Round.Round, formats.Format.Format}
use Rattle.apfloat_model.specs.formats.{Datum.Datum, Datum.finite, Datum.infinite, Datum.nan, Nan.invalid_bit}
use Rattle.apfloat_model.specs.rounding.{Answer.IsAnswer, Outcome.Outcome, Outcome.settled, Outcome.rounded}
use Rattle.apfloat_model.specs.rounding.{Outcome.totalled, Outcome.rooted, Outcome.IsSound, RaisedFlags.FlagsGoTogether}
use Rattle.apfloat_model.specs.rounding.Rounding.{ok_bits, underflow_bit, inexact_bit, delivered_value}
use Rattle.apfloat_model.specs.{rounding.Rounding.delivered_status, order.Classes.is_nan}
use Rattle.apfloat_model.specs.arithmetic.Exact.{sign_of, magnitude, zero_sum_sign}
use Rattle.apfloat_model.specs.arithmetic.{Sums.sum, Sums.difference, Sums.IsSum, Sums.IsDifference, Products.product}
use Rattle.apfloat_model.specs.arithmetic.{Products.IsProduct, Quotients.quotient, Quotients.IsQuotient}
use Rattle.apfloat_model.specs.arithmetic.Remainders.{IsTruncatedRemainder, IsNearestRemainder, truncated_quotient}
use Rattle.apfloat_model.specs.arithmetic.{Remainders.nearest_quotient, Roots.IsRoot, FusedSums.fused_sum}
use Rattle.apfloat_model.specs.arithmetic.{FusedSums.IsFusedSum, Conversions.IsConversion, Conversions.loses_zero_sign}
use Rattle.apfloat_model.specs.whole_numbers.WholeNumbers.{IsRoundToIntegral}
use Rattle.apfloat_model.specs.whole_numbers.WholeNumbersOut.{to_signed, to_unsigned}
use Rattle.apfloat_model.proofs.{general.Choices.match_case, general.Choices.if_case, Outcomes.yields_together}
use Rattle.apfloat_model.proofs.Outcomes.{sum_sound, difference_sound, product_sound, quotient_sound, fused_sum_sound}
use Rattle.apfloat_model.proofs.rounding.FlagsTogether.{inexact_together, only_inexact_together, ok_together}
use Rattle.apfloat_model.proofs.rounding.FlagsTogether.{invalid_together, invalid_if_together, answer_together}
use Rattle.apfloat_model.proofs.rounding.FlagsTogether.{delivered_together, sum_together, difference_together}
use Rattle.apfloat_model.proofs.rounding.FlagsTogether.{product_together, quotient_together, root_together}
use Rattle.apfloat_model.proofs.rounding.FlagsTogether.{fused_sum_together, remainder_together, conversion_together}
use Rattle.apfloat_model.proofs.rounding.FlagsTogether.{round_to_integral_together, to_signed_together}
use Rattle.apfloat_model.proofs.rounding.FlagsTogether.{to_unsigned_together}
use Rattle.ieee_operations.specs.{RaisedFlags.RaisesTogether, WholeNumbers.IsRoundedToIntegral}
use Rattle.apfloat_machines.specs.declared.{machine.Machine.Machine, flushing.Flush.TheVariants.X86}
use Rattle.apfloat_machines.specs.Invalid.{is_invalid_sum, is_invalid_difference, is_invalid_product}
use Rattle.apfloat_machines.specs.Invalid.{is_invalid_quotient, is_invalid_remainder, is_invalid_root, is_invalid_fused}
use Rattle.apfloat_machines.specs.Operations.{is_nan_of_three, IsOfTwo, IsOfThree}
use Rattle.apfloat_machines.specs.Conversions.{is_lost_nan}
use Rattle.apfloat_machines.specs.WholeNumbers.{invalid_flags, settled_flags, IsMachineSigned, IsMachineUnsigned}
use Rattle.apfloat_machines.specs.Flushing.{flushes, IsRoundedOrFlushed}
use Rattle.apfloat_machines.specs.FlushedOperations.{YieldsFlushed, IsFlushedSum, IsFlushedDifference, IsFlushedProduct}
use Rattle.apfloat_machines.specs.FlushedOperations.{IsFlushedQuotient, IsFlushedFusedSum, IsFlushedConversion}
use Rattle.apfloat_machines.specs.RaisedFlags.{MachineFlagsGoTogether, FlushedFlagsGoTogether}

-- ---- operations on one, two and three operands

of_two_together : (f : Format) (machine : Machine) (x y : Datum) (invalid : Bool) (Says : Datum → ℕ → Type 0)
    → RaisesTogether Says → RaisesTogether (IsOfTwo f machine x y invalid Says)
of_two_together f machine x y invalid Says together =
    match_case RaisesTogether (is_nan x || is_nan y) (IsAnswer _ _)
    (λ v s. MatchBool invalid (IsAnswer _ _ v s) (Says v s)) (answer_together _ _ (invalid_if_together _))
    (match_case RaisesTogether invalid (IsAnswer _ _) Says (answer_together _ _ invalid_together) together)

of_three_together : (f : Format) (machine : Machine) (x y z : Datum) (Says : Datum → ℕ → Type 0)
    → RaisesTogether Says → RaisesTogether (IsOfThree f machine x y z Says)
of_three_together f machine x y z Says together =
    match_case RaisesTogether (is_nan_of_three x y z) (IsAnswer _ _)
    (λ v s. MatchBool (is_invalid_fused x y z) (IsAnswer _ _ v s) (Says v s))
    (answer_together _ _ (invalid_if_together _))
    (match_case RaisesTogether (is_invalid_fused x y z) (IsAnswer _ _) Says (answer_together _ _ invalid_together)
    together)

-- rounding to an integral datum without INEXACT raises INVALID_OP or nothing
integral_together : (f : Format) (mode : Round) (x : Datum) → RaisesTogether (IsRoundedToIntegral f mode x)
integral_together f mode (nan b s) = answer_together _ _ (invalid_if_together _)
integral_together f mode (infinite b) = answer_together _ _ ok_together
integral_together f mode (finite b n) = answer_together _ _ ok_together

any_loss_together : (f g : Format) (mode : Round) (x : Datum)
    → RaisesTogether (λ v s. (loses : Bool) × IsConversion f g mode x v s loses)
any_loss_together f g mode x value status h = conversion_together f g mode x h.0 value status h.1

-- ---- integers

invalid_flags_together : (machine : Machine) (x : Datum) → FlagsGoTogether (invalid_flags machine x)
invalid_flags_together machine x =
    if_case FlagsGoTogether (machine.invalid_integer_is_inexact && not (is_nan x))
    (λ e. inexact_together (invalid_bit + inexact_bit) (lit< tt)) (λ e. invalid_together)

settled_together : (machine : Machine) (x : Datum) (status : ℕ)
    → (eqb status invalid_bit ≡ false → FlagsGoTogether status) → FlagsGoTogether (settled_flags machine x status)
settled_together machine x status h =
    if_case FlagsGoTogether (eqb status invalid_bit) (λ e. invalid_flags_together machine x) h

signed_together : (f : Format) (machine : Machine) (mode : Round) (width : ℕ) (x : Datum)
    → RaisesTogether (IsMachineSigned f machine mode width x)
signed_together f machine mode width x number status h =
    let whole = to_signed f mode width x in
    subst FlagsGoTogether (sym h.status_is)
    (settled_together machine x whole.status
    (λ e. to_signed_together f mode width x whole.number whole.status whole.is_exact
    (record { number_is = refl; status_is = refl; is_exact_is = refl })))

-- a number that is not replaced
kept_number : (test : Bool) (other number : ℤ) → test ≡ false → (if test then other else number) ≡ number
kept_number true other number e = cc
kept_number false other number e = refl

unsigned_together : (f : Format) (machine : Machine) (mode : Round) (width : ℕ) (x : Datum)
    → RaisesTogether (IsMachineUnsigned f machine mode width x)
unsigned_together f machine mode width x number status h =
    let whole = to_unsigned f mode width x in
    subst FlagsGoTogether (sym h.status_is)
    (settled_together machine x whole.status
    (λ e. to_unsigned_together f mode width x number whole.status whole.is_exact
    (record {
      number_is = h.number_is ∙ kept_number (eqb whole.status invalid_bit) _ whole.number e;
      status_is = refl;
      is_exact_is = refl;
    })))

pub raise_together : (f : Format) (machine : Machine) → MachineFlagsGoTogether f machine
raise_together f machine =
    record {
      operations = record {
        sum = λ mode x y. of_two_together f machine x y (is_invalid_sum x y) (IsSum f mode x y)
            (sum_together f mode x y);
        difference = λ mode x y. of_two_together f machine x y (is_invalid_difference x y) (IsDifference f mode x y)
            (difference_together f mode x y);
        product = λ mode x y. of_two_together f machine x y (is_invalid_product x y) (IsProduct f mode x y)
            (product_together f mode x y);
        quotient = λ mode x y. of_two_together f machine x y (is_invalid_quotient x y) (IsQuotient f mode x y)
            (quotient_together f mode x y);
        truncated = λ x y. of_two_together f machine x y (is_invalid_remainder x y) (IsTruncatedRemainder f x y)
            (remainder_together f truncated_quotient x y);
        nearest = λ x y. of_two_together f machine x y (is_invalid_remainder x y) (IsNearestRemainder f x y)
            (remainder_together f nearest_quotient x y);
        root = λ mode x. of_two_together f machine x x (is_invalid_root x) (IsRoot f mode x) (root_together f mode x);
        exact = λ mode x. of_two_together f machine x x false (IsRoundToIntegral f mode x)
            (round_to_integral_together f mode x);
        integral = λ mode x. of_two_together f machine x x false (IsRoundedToIntegral f mode x)
            (integral_together f mode x);
      };
      fused_sum = λ mode x y z. of_three_together f machine x y z (IsFusedSum f mode x y z)
          (fused_sum_together f mode x y z);
      conversion = λ source mode x. match_case RaisesTogether (is_lost_nan source machine x) (IsAnswer _ _)
          (λ v s. (loses : Bool) × IsConversion source f mode x v s loses)
          (answer_together _ _ (invalid_if_together _)) (any_loss_together source f mode x);
      least = λ rule x y. answer_together _ _ (invalid_if_together _);
      greatest = λ rule x y. answer_together _ _ (invalid_if_together _);
      signed = λ mode width x. signed_together f machine mode width x;
      unsigned = λ mode width x. unsigned_together f machine mode width x;
    }

-- ---- with results flushed as by x86

rounded_or_flushed_together : (f : Format) (mode : Round) (negative : Bool) (amount parts : ℕ)
    → RaisesTogether (IsRoundedOrFlushed f X86 mode negative amount parts)
rounded_or_flushed_together f mode negative amount parts value status h =
    subst FlagsGoTogether (sym h.status_is)
    (if_case FlagsGoTogether (flushes f mode negative amount parts h.pick)
    (λ e. inexact_together (underflow_bit + inexact_bit) (lit< tt))
    (λ e. delivered_together f mode negative amount parts (delivered_value f mode negative h.pick)
    (delivered_status f mode negative amount parts h.pick)
    (record { pick = h.pick; is_pick = h.is_pick; value_is = refl; status_is = refl })))

yields_flushed_together : (f : Format) (mode : Round) (outcome : Outcome) → IsSound outcome
    → RaisesTogether (YieldsFlushed f X86 mode outcome)
yields_flushed_together f mode (settled datum flags) h = answer_together datum flags h
yields_flushed_together f mode (rounded negative amount parts) h =
    rounded_or_flushed_together f mode negative amount parts
yields_flushed_together f mode (totalled left right exact parts) h =
    rounded_or_flushed_together f mode (sign_of (zero_sum_sign mode left right) exact) (magnitude exact) parts
yields_flushed_together f mode (rooted square parts) h = yields_together f mode (rooted square parts) h

zero_flags : (test : Bool) → FlagsGoTogether (if test then inexact_bit else ok_bits)
zero_flags true = only_inexact_together
zero_flags false = ok_together

flushed_conversion_together : (f g : Format) (mode : Round) (x : Datum)
    → RaisesTogether (IsFlushedConversion f g X86 mode x)
flushed_conversion_together f g mode (finite b n) =
    match_case RaisesTogether (eqb n 0) (IsAnswer _ _) (IsRoundedOrFlushed g X86 mode _ _ _)
    (answer_together _ _ (zero_flags (loses_zero_sign g b))) (rounded_or_flushed_together g mode _ _ _)
flushed_conversion_together f g mode (infinite b) = any_loss_together f g mode (infinite b)
flushed_conversion_together f g mode (nan b t) = any_loss_together f g mode (nan b t)

pub raise_together_flushed : (f : Format) (machine : Machine) → FlushedFlagsGoTogether f machine
raise_together_flushed f machine =
    record {
      sum = λ mode x y. of_two_together f machine x y (is_invalid_sum x y) (IsFlushedSum f X86 mode x y)
          (yields_flushed_together f mode (sum f x y) (sum_sound f x y));
      difference = λ mode x y. of_two_together f machine x y (is_invalid_difference x y)
          (IsFlushedDifference f X86 mode x y)
          (yields_flushed_together f mode (difference f x y) (difference_sound f x y));
      product = λ mode x y. of_two_together f machine x y (is_invalid_product x y) (IsFlushedProduct f X86 mode x y)
          (yields_flushed_together f mode (product f x y) (product_sound f x y));
      quotient = λ mode x y. of_two_together f machine x y (is_invalid_quotient x y)
          (IsFlushedQuotient f X86 mode x y) (yields_flushed_together f mode (quotient f x y) (quotient_sound f x y));
      fused_sum = λ mode x y z. of_three_together f machine x y z (IsFlushedFusedSum f X86 mode x y z)
          (yields_flushed_together f mode (fused_sum f x y z) (fused_sum_sound f x y z));
      conversion = λ source mode x. match_case RaisesTogether (is_lost_nan source machine x) (IsAnswer _ _)
          (IsFlushedConversion source f X86 mode x) (answer_together _ _ (invalid_if_together _))
          (flushed_conversion_together source f mode x);
    }
