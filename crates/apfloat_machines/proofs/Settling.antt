-- What a machine makes of an answer is what its definition says of the operation.
use Rattle.std.proofs.Common.{◌≡◌, ℕ, Bool, true, false, not, ◌&&◌, ◌||◌, refl, if◌then◌else◌}
use Rattle.std.specs.Bool.{MatchBool}
use Rattle.apfloat_model.specs.declared.kinds.Round.{Round, TheVariants.NearestTiesToEven}
use Rattle.apfloat_model.specs.declared.{kinds.NonfiniteBehavior.TheVariants.IEEE754, status.StatusAnd.StatusAnd}
use Rattle.apfloat_model.specs.formats.{Format.Format, Datum.Datum, Nan.invalid_bit, Nan.invalid_if}
use Rattle.apfloat_model.specs.rounding.{Answer.IsAnswer, Flags.bits_of, Flags.Gives}
use Rattle.apfloat_model.specs.{order.Classes.is_nan, arithmetic.Sums.sum, arithmetic.Sums.difference}
use Rattle.apfloat_model.specs.arithmetic.{Sums.IsSum, Sums.IsDifference, Products.product, Products.IsProduct}
use Rattle.apfloat_model.specs.arithmetic.{Quotients.quotient, Quotients.IsQuotient, Remainders.remainder}
use Rattle.apfloat_model.specs.arithmetic.Remainders.{IsTruncatedRemainder, IsNearestRemainder, truncated_quotient}
use Rattle.apfloat_model.specs.arithmetic.{Remainders.nearest_quotient, Roots.root, Roots.IsRoot, FusedSums.fused_sum}
use Rattle.apfloat_model.specs.{arithmetic.FusedSums.IsFusedSum, whole_numbers.WholeNumbers.IsRoundToIntegral}
use Rattle.ieee_operations.specs.{WholeNumbers.IsRoundedToIntegral, Extrema.quieted_datum}
use Rattle.apfloat_machines.specs.{declared.machine.Machine.Machine, Nans.default_nan, Nans.nan_of, Nans.settled}
use Rattle.apfloat_machines.specs.Invalid.{is_invalid_sum, is_invalid_difference, is_invalid_product}
use Rattle.apfloat_machines.specs.Invalid.{is_invalid_quotient, is_invalid_remainder, is_invalid_root, is_invalid_fused}
use Rattle.apfloat_machines.specs.Operations.{is_signaling_of_two, is_nan_of_three, IsOfTwo, IsOfThree, AreSettled}
use Rattle.apfloat_machines.specs.Operations.{AreSettledOfOne, IsMachineFusedSum, taken_in_order, fused_takes_none}
use Rattle.apfloat_machines.specs.Operations.{is_invalid_of_nans, settled_fused, settled_fused_flags}
use Rattle.apfloat_machines.proofs.Usual.{IsUsual, IsUsualNumber, IsUsualFused, settled_or_number, sum_usual}
use Rattle.apfloat_machines.proofs.Usual.{difference_usual, product_usual, quotient_usual, remainder_usual, root_usual}
use Rattle.apfloat_machines.proofs.Usual.{exact_usual, integral_usual, fused_usual}

-- ---- two operands

-- by whether an operand is a NaN, and whether the operation is invalid
two_cases : (nans invalid : Bool) (chosen default value : Datum) (flags status : ℕ) (Says : Datum → ℕ → Type 0)
    → MatchBool nans ((is_nan value ≡ true) × (status ≡ flags)) (IsUsualNumber invalid value status)
    → Says value status → MatchBool nans
    (IsAnswer (if nans then chosen else default) flags
    (if is_nan value then (if nans then chosen else default) else value) status)
    (MatchBool invalid
    (IsAnswer default invalid_bit (if is_nan value then (if nans then chosen else default) else value) status)
    (Says (if is_nan value then (if nans then chosen else default) else value) status))
two_cases true invalid chosen default value flags status Says u h =
    record { value_is = rw u.0 refl; status_is = u.1 }
two_cases false true chosen default value flags status Says u h =
    record { value_is = rw u.0 refl; status_is = u.1 }
two_cases false false chosen default value flags status Says u h = rw u h

pub of_two : (f : Format) (machine : Machine) (x y : Datum) (invalid : Bool) (Says : Datum → ℕ → Type 0)
    (value : Datum) (status : ℕ) → IsUsual f x y invalid value status → Says value status
    → IsOfTwo f machine x y invalid Says (settled f machine x y value) status
of_two f machine x y invalid Says value status u h =
    two_cases (is_nan x || is_nan y) invalid (nan_of f machine x y) (default_nan f machine) value
    (invalid_if (is_signaling_of_two f x y)) status Says u h

-- ---- the calls

pub are_settled : (f : Format) (machine : Machine) (x y : Datum) (answer result : StatusAnd Datum)
    → result.value ≡ settled f machine x y answer.value → result.status ≡ answer.status
    → f.nonfinite ≡ IEEE754 → AreSettled f machine x y answer result
are_settled f machine x y answer result v s e =
    let a = answer.value in
    let r = bits_of answer.status in
    rw (v, s) (record {
      sum = λ mode h. of_two f machine x y (is_invalid_sum x y) (IsSum f mode x y) a r
          (sum_usual f x y a r (settled_or_number f mode (sum f x y) a r e h)) h;
      difference = λ mode h. of_two f machine x y (is_invalid_difference x y) (IsDifference f mode x y) a r
          (difference_usual f x y a r (settled_or_number f mode (difference f x y) a r e h)) h;
      product = λ mode h. of_two f machine x y (is_invalid_product x y) (IsProduct f mode x y) a r
          (product_usual f x y a r (settled_or_number f mode (product f x y) a r e h)) h;
      quotient = λ mode h. of_two f machine x y (is_invalid_quotient x y) (IsQuotient f mode x y) a r
          (quotient_usual f x y a r e (settled_or_number f mode (quotient f x y) a r e h)) h;
      truncated = λ h. of_two f machine x y (is_invalid_remainder x y) (IsTruncatedRemainder f x y) a r
          (remainder_usual f truncated_quotient x y a r
          (settled_or_number f NearestTiesToEven (remainder f truncated_quotient x y) a r e h)) h;
      nearest = λ h. of_two f machine x y (is_invalid_remainder x y) (IsNearestRemainder f x y) a r
          (remainder_usual f nearest_quotient x y a r
          (settled_or_number f NearestTiesToEven (remainder f nearest_quotient x y) a r e h)) h;
    })

pub are_settled_of_one : (f : Format) (machine : Machine) (x : Datum) (answer result : StatusAnd Datum)
    → result.value ≡ settled f machine x x answer.value → result.status ≡ answer.status
    → f.nonfinite ≡ IEEE754 → AreSettledOfOne f machine x answer result
are_settled_of_one f machine x answer result v s e =
    let a = answer.value in
    let r = bits_of answer.status in
    rw (v, s) (record {
      root = λ mode h. of_two f machine x x (is_invalid_root x) (IsRoot f mode x) a r
          (root_usual f x a r (settled_or_number f mode (root f x) a r e h)) h;
      exact = λ mode h. of_two f machine x x false (IsRoundToIntegral f mode x) a r (exact_usual f mode x a r h) h;
      integral = λ mode h.
          of_two f machine x x false (IsRoundedToIntegral f mode x) a r (integral_usual f mode x a r h) h;
    })

-- ---- fused sums

pub fused_cases : (nans keeps invalid : Bool) (chosen default value : Datum)
    (flags status : ℕ) (Says : Datum → ℕ → Type 0)
    → MatchBool nans (is_nan value ≡ true) (IsUsualNumber invalid value status) → Says value status → MatchBool nans
    (IsAnswer (if nans && keeps then chosen else default) flags
    (if is_nan value then (if nans && keeps then chosen else default) else value)
    (if is_nan value && nans then flags else status))
    (MatchBool invalid
    (IsAnswer default invalid_bit (if is_nan value then (if nans && keeps then chosen else default) else value)
    (if is_nan value && nans then flags else status))
    (Says (if is_nan value then (if nans && keeps then chosen else default) else value)
    (if is_nan value && nans then flags else status)))
fused_cases true keeps invalid chosen default value flags status Says u h =
    record { value_is = rw u refl; status_is = rw u refl }
fused_cases false keeps true chosen default value flags status Says u h =
    record { value_is = rw u.0 refl; status_is = rw u.0 u.1 }
fused_cases false keeps false chosen default value flags status Says u h = rw u h

pub of_three : (f : Format) (machine : Machine) (x y z : Datum) (Says : Datum → ℕ → Type 0) (value : Datum) (status : ℕ)
    → IsUsualFused x y z value status → Says value status
    → IsOfThree f machine x y z Says (settled_fused f machine x y z value)
    (settled_fused_flags f machine x y z value status)
of_three f machine x y z Says value status u h =
    fused_cases (is_nan_of_three x y z) (not (fused_takes_none f machine x y z)) (is_invalid_fused x y z)
    (quieted_datum f (taken_in_order machine.fused_order machine.nan_choice f x y z)) (default_nan f machine) value
    (invalid_if (is_invalid_of_nans f machine x y z)) status Says u h

pub fused_is_settled : (f : Format) (machine : Machine) (x y z : Datum) (answer result : StatusAnd Datum)
    → result.value ≡ settled_fused f machine x y z answer.value
    → bits_of result.status ≡ settled_fused_flags f machine x y z answer.value (bits_of answer.status)
    → f.nonfinite ≡ IEEE754 → (mode : Round) → Gives (IsFusedSum f mode x y z) answer
    → Gives (IsMachineFusedSum f machine mode x y z) result
fused_is_settled f machine x y z answer result v s e mode h =
    rw (v, s) (of_three f machine x y z (IsFusedSum f mode x y z) answer.value (bits_of answer.status)
    (fused_usual f x y z answer.value (bits_of answer.status)
    (settled_or_number f mode (fused_sum f x y z) answer.value (bits_of answer.status) e h)) h)
