-- The operations of machines: value and flags (IEEE 754-2019 5.4.1, 6.2.3, 7.2).
use Rattle.std.specs.Prelude.{◌≡◌, ℕ, Bool, true, false, not, ◌&&◌, ◌||◌, Option, Some, None, if◌then◌else◌}
use Rattle.std.specs.Bool.{MatchBool}
use Rattle.apfloat_model.specs.{formats.Nan.is_signaling_nan, order.Classes.is_nan, arithmetic.FusedSums.IsFusedSum}
use Rattle.apfloat_model.specs.{whole_numbers.WholeNumbers.IsRoundToIntegral, declared.kinds.Round.Round}
use Rattle.apfloat_model.specs.declared.{kinds.NonfiniteBehavior.TheVariants.IEEE754, status.StatusAnd.StatusAnd}
use Rattle.apfloat_model.specs.rounding.{Flags.Gives, Flags.bits_of, Answer.IsAnswer}
use Rattle.apfloat_model.specs.formats.{Format.Format, Datum.Datum, Nan.invalid_bit, Nan.invalid_if}
use Rattle.apfloat_model.specs.arithmetic.{Sums.IsSum, Sums.IsDifference, Products.IsProduct, Quotients.IsQuotient}
use Rattle.apfloat_model.specs.arithmetic.{Remainders.IsTruncatedRemainder, Remainders.IsNearestRemainder, Roots.IsRoot}
use Rattle.ieee_operations.specs.{WholeNumbers.IsRoundedToIntegral, Extrema.quieted_datum}
use Rattle.apfloat_machines.specs.declared.machine.{Machine.Machine, FusedOrder.FusedOrder}
use Rattle.apfloat_machines.specs.declared.machine.FusedOrder.TheVariants.{FactorsFirst, AddendFirst, AddendSecond}
use Rattle.apfloat_machines.specs.declared.machine.NanChoice.{NanChoice}
use Rattle.apfloat_machines.specs.Nans.{default_nan, taken, takes_none, machine_nan}
use Rattle.apfloat_machines.specs.Invalid.{is_invalid_sum, is_invalid_difference, is_invalid_product}
use Rattle.apfloat_machines.specs.Invalid.{is_invalid_quotient, is_invalid_remainder, is_invalid_root, is_invalid_fused}

-- ---- two operands

abbrev pub is_signaling_of_two : Format → Datum → Datum → Bool
is_signaling_of_two f x y = is_signaling_nan f x || is_signaling_nan f y

-- If an operand is a NaN, or the operation is invalid, the machine's NaN; otherwise what the operation gives.
abbrev pub IsOfTwo : Format → Machine → Datum → Datum → Bool → (Datum → ℕ → Type 0) → Datum → ℕ → Type 0
IsOfTwo f machine x y invalid Says value status =
    MatchBool (is_nan x || is_nan y)
    (IsAnswer (machine_nan f machine x y) (invalid_if (is_signaling_of_two f x y)) value status)
    (MatchBool invalid (IsAnswer (default_nan f machine) invalid_bit value status) (Says value status))

abbrev pub IsMachineSum : Format → Machine → Round → Datum → Datum → Datum → ℕ → Type 0
IsMachineSum f machine mode x y value status =
    IsOfTwo f machine x y (is_invalid_sum x y) (IsSum f mode x y) value status

abbrev pub IsMachineDifference : Format → Machine → Round → Datum → Datum → Datum → ℕ → Type 0
IsMachineDifference f machine mode x y value status =
    IsOfTwo f machine x y (is_invalid_difference x y) (IsDifference f mode x y) value status

abbrev pub IsMachineProduct : Format → Machine → Round → Datum → Datum → Datum → ℕ → Type 0
IsMachineProduct f machine mode x y value status =
    IsOfTwo f machine x y (is_invalid_product x y) (IsProduct f mode x y) value status

abbrev pub IsMachineQuotient : Format → Machine → Round → Datum → Datum → Datum → ℕ → Type 0
IsMachineQuotient f machine mode x y value status =
    IsOfTwo f machine x y (is_invalid_quotient x y) (IsQuotient f mode x y) value status

abbrev pub IsMachineTruncatedRemainder : Format → Machine → Datum → Datum → Datum → ℕ → Type 0
IsMachineTruncatedRemainder f machine x y value status =
    IsOfTwo f machine x y (is_invalid_remainder x y) (IsTruncatedRemainder f x y) value status

abbrev pub IsMachineNearestRemainder : Format → Machine → Datum → Datum → Datum → ℕ → Type 0
IsMachineNearestRemainder f machine x y value status =
    IsOfTwo f machine x y (is_invalid_remainder x y) (IsNearestRemainder f x y) value status

-- the only operand is both operands
abbrev pub IsMachineRoot : Format → Machine → Round → Datum → Datum → ℕ → Type 0
IsMachineRoot f machine mode x value status =
    IsOfTwo f machine x x (is_invalid_root x) (IsRoot f mode x) value status

-- rounding to an integral datum, with INEXACT and without it (5.9)
abbrev pub IsMachineIntegralExact : Format → Machine → Round → Datum → Datum → ℕ → Type 0
IsMachineIntegralExact f machine mode x value status =
    IsOfTwo f machine x x false (IsRoundToIntegral f mode x) value status

abbrev pub IsMachineIntegral : Format → Machine → Round → Datum → Datum → ℕ → Type 0
IsMachineIntegral f machine mode x value status =
    IsOfTwo f machine x x false (IsRoundedToIntegral f mode x) value status

-- what `settled` makes of the answer of each operation
pub record AreSettled (f : Format) (machine : Machine) (x y : Datum) (answer result : StatusAnd Datum) : Type 0 where
  pub sum : (mode : Round) → Gives (IsSum f mode x y) answer → Gives (IsMachineSum f machine mode x y) result
  pub difference : (mode : Round) → Gives (IsDifference f mode x y) answer
      → Gives (IsMachineDifference f machine mode x y) result
  pub product : (mode : Round) → Gives (IsProduct f mode x y) answer
      → Gives (IsMachineProduct f machine mode x y) result
  pub quotient : (mode : Round) → Gives (IsQuotient f mode x y) answer
      → Gives (IsMachineQuotient f machine mode x y) result
  pub truncated : Gives (IsTruncatedRemainder f x y) answer
      → Gives (IsMachineTruncatedRemainder f machine x y) result
  pub nearest : Gives (IsNearestRemainder f x y) answer → Gives (IsMachineNearestRemainder f machine x y) result

-- what `settled_unary` makes of the answer of each operation on one operand
pub record AreSettledOfOne (f : Format) (machine : Machine) (x : Datum) (answer result : StatusAnd Datum)
    : Type 0 where
  pub root : (mode : Round) → Gives (IsRoot f mode x) answer → Gives (IsMachineRoot f machine mode x) result
  pub exact : (mode : Round) → Gives (IsRoundToIntegral f mode x) answer
      → Gives (IsMachineIntegralExact f machine mode x) result
  pub integral : (mode : Round) → Gives (IsRoundedToIntegral f mode x) answer
      → Gives (IsMachineIntegral f machine mode x) result

-- ---- fused sums

abbrev pub is_nan_of_three : Datum → Datum → Datum → Bool
is_nan_of_three x y z = is_nan x || (is_nan y || is_nan z)

-- of three operands in their order, the NaN that is taken, as it is
abbrev pub taken_of_three : NanChoice → Format → Datum → Datum → Datum → Datum
taken_of_three choice f x y z = taken choice f (taken choice f x y) z

abbrev pub taken_in_order : FusedOrder → NanChoice → Format → Datum → Datum → Datum → Datum
taken_in_order FactorsFirst choice f x y z = taken_of_three choice f x y z
taken_in_order AddendFirst choice f x y z = taken_of_three choice f z x y
taken_in_order AddendSecond choice f x y z = taken_of_three choice f x z y

-- whether an invalid product takes the place of the NaN that is added to it
abbrev pub drops_addend : Format → Machine → Datum → Bool
drops_addend f machine z =
    if is_signaling_nan f z then machine.drops_signaling_addend else machine.drops_quiet_addend

abbrev pub fused_takes_none : Format → Machine → Datum → Datum → Datum → Bool
fused_takes_none f machine x y z =
    takes_none machine.nan_choice f x y || (takes_none machine.nan_choice f x z
    || (is_invalid_product x y && drops_addend f machine z))

-- the NaN that is delivered
abbrev pub fused_nan : Format → Machine → Datum → Datum → Datum → Datum
fused_nan f machine x y z =
    if is_nan_of_three x y z && not (fused_takes_none f machine x y z)
    then quieted_datum f (taken_in_order machine.fused_order machine.nan_choice f x y z)
    else default_nan f machine

-- whether operands of which one is a NaN raise INVALID_OP
abbrev pub is_invalid_of_nans : Format → Machine → Datum → Datum → Datum → Bool
is_invalid_of_nans f machine x y z =
    is_signaling_nan f x || (is_signaling_nan f y || (is_signaling_nan f z
    || (is_invalid_product x y && machine.flags_quiet_addend)))

-- If an operand is a NaN, or the fused sum is invalid, the machine's NaN; otherwise what the fused sum gives.
abbrev pub IsOfThree
    : Format → Machine → Datum → Datum → Datum → (Datum → ℕ → Type 0) → Datum → ℕ → Type 0
IsOfThree f machine x y z Says value status =
    MatchBool (is_nan_of_three x y z)
    (IsAnswer (fused_nan f machine x y z) (invalid_if (is_invalid_of_nans f machine x y z)) value status)
    (MatchBool (is_invalid_fused x y z) (IsAnswer (default_nan f machine) invalid_bit value status)
    (Says value status))

abbrev pub IsMachineFusedSum : Format → Machine → Round → Datum → Datum → Datum → Datum → ℕ → Type 0
IsMachineFusedSum f machine mode x y z value status =
    IsOfThree f machine x y z (IsFusedSum f mode x y z) value status

-- ---- what a machine has

-- the result, or none if the machine lacks the operation
abbrev pub IsOffered : {A : Type 0} → Bool → (A → Type 0) → Option A → Type 0
IsOffered has Says None = has ≡ false
IsOffered has Says (Some answer) = (has ≡ true) × Says answer

-- the value and the flags that a machine makes of those of a fused sum
abbrev pub settled_fused : Format → Machine → Datum → Datum → Datum → Datum → Datum
settled_fused f machine x y z value = if is_nan value then fused_nan f machine x y z else value

abbrev pub settled_fused_flags : Format → Machine → Datum → Datum → Datum → Datum → ℕ → ℕ
settled_fused_flags f machine x y z value status =
    if is_nan value && is_nan_of_three x y z then invalid_if (is_invalid_of_nans f machine x y z) else status

-- what `settled_fused` makes of an answer, and of that of a fused sum in a format with infinities
pub record IsSettledFused (f : Format) (machine : Machine) (x y z : Datum) (answer result : StatusAnd Datum)
    : Type 0 where
  pub value_is : result.value ≡ settled_fused f machine x y z answer.value
  pub status_is : bits_of result.status ≡ settled_fused_flags f machine x y z answer.value (bits_of answer.status)
  pub fused_sum : f.nonfinite ≡ IEEE754 → (mode : Round) → Gives (IsFusedSum f mode x y z) answer
      → Gives (IsMachineFusedSum f machine mode x y z) result
