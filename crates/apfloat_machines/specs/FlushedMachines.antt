-- The operations of a machine that flushes tiny results to zero, with its NaNs: the cases of `IsMachineSum` and the
-- definitions beside it, in which the exact result is rounded once or is flushed. Operands that are flushed are flushed
-- before (`without_denormal`).
use Rattle.std.specs.Prelude.{◌≡◌, ℕ}
use Rattle.std.specs.Bool.{MatchBool}
use Rattle.apfloat_model.specs.declared.kinds.{Round.Round, NonfiniteBehavior.TheVariants.IEEE754}
use Rattle.apfloat_model.specs.{declared.status.StatusAnd.StatusAnd, rounding.Flags.Gives, rounding.Answer.IsAnswer}
use Rattle.apfloat_model.specs.formats.{Format.Format, Datum.Datum, Nan.invalid_if, Nan.is_signaling_nan}
use Rattle.apfloat_machines.specs.declared.{machine.Machine.Machine, flushing.Flush.Flush}
use Rattle.apfloat_machines.specs.{Nans.default_nan, Invalid.is_invalid_sum}
use Rattle.apfloat_machines.specs.Invalid.{is_invalid_difference, is_invalid_product, is_invalid_quotient}
use Rattle.apfloat_machines.specs.{Operations.IsOfTwo, Operations.IsOfThree, Conversions.is_lost_nan, Theorems.IsOnce}
use Rattle.apfloat_machines.specs.FlushedOperations.{IsFlushedSum, IsFlushedDifference, IsFlushedProduct}
use Rattle.apfloat_machines.specs.FlushedOperations.{IsFlushedQuotient, IsFlushedFusedSum, IsFlushedConversion}

abbrev pub IsFlushedMachineSum : Format → Machine → Flush → Round → Datum → Datum → Datum → ℕ → Type 0
IsFlushedMachineSum f machine flush mode x y value status =
    IsOfTwo f machine x y (is_invalid_sum x y) (IsFlushedSum f flush mode x y) value status

abbrev pub IsFlushedMachineDifference : Format → Machine → Flush → Round → Datum → Datum → Datum → ℕ → Type 0
IsFlushedMachineDifference f machine flush mode x y value status =
    IsOfTwo f machine x y (is_invalid_difference x y) (IsFlushedDifference f flush mode x y) value status

abbrev pub IsFlushedMachineProduct : Format → Machine → Flush → Round → Datum → Datum → Datum → ℕ → Type 0
IsFlushedMachineProduct f machine flush mode x y value status =
    IsOfTwo f machine x y (is_invalid_product x y) (IsFlushedProduct f flush mode x y) value status

abbrev pub IsFlushedMachineQuotient : Format → Machine → Flush → Round → Datum → Datum → Datum → ℕ → Type 0
IsFlushedMachineQuotient f machine flush mode x y value status =
    IsOfTwo f machine x y (is_invalid_quotient x y) (IsFlushedQuotient f flush mode x y) value status

abbrev pub IsFlushedMachineFusedSum
    : Format → Machine → Flush → Round → Datum → Datum → Datum → Datum → ℕ → Type 0
IsFlushedMachineFusedSum f machine flush mode x y z value status =
    IsOfThree f machine x y z (IsFlushedFusedSum f flush mode x y z) value status

-- the conversion of a datum of f into g
abbrev pub IsFlushedMachineConversion : Format → Format → Machine → Flush → Round → Datum → Datum → ℕ → Type 0
IsFlushedMachineConversion f g machine flush mode x value status =
    MatchBool (is_lost_nan f machine x)
    (IsAnswer (default_nan g machine) (invalid_if (is_signaling_nan f x)) value status)
    (IsFlushedConversion f g flush mode x value status)

-- what `settled` makes of the answer of each operation that `flushed` has made
pub record AreFlushedAndSettled (f : Format) (machine : Machine) (flush : Flush) (x y : Datum)
    (answer result : StatusAnd Datum) : Type 0 where
  pub sum : (mode : Round) → Gives (IsFlushedSum f flush mode x y) answer
      → Gives (IsFlushedMachineSum f machine flush mode x y) result
  pub difference : (mode : Round) → Gives (IsFlushedDifference f flush mode x y) answer
      → Gives (IsFlushedMachineDifference f machine flush mode x y) result
  pub product : (mode : Round) → Gives (IsFlushedProduct f flush mode x y) answer
      → Gives (IsFlushedMachineProduct f machine flush mode x y) result
  pub quotient : (mode : Round) → Gives (IsFlushedQuotient f flush mode x y) answer
      → Gives (IsFlushedMachineQuotient f machine flush mode x y) result

-- what `settled_fused` makes of a fused sum that `flushed` has made, in a format with infinities
abbrev pub IsFlushedAndSettledFused
    : Format → Machine → Datum → Datum → Datum → StatusAnd Datum → StatusAnd Datum → Type 0
IsFlushedAndSettledFused f machine x y z answer result =
    f.nonfinite ≡ IEEE754 → (flush : Flush) (mode : Round) → Gives (IsFlushedFusedSum f flush mode x y z) answer
    → Gives (IsFlushedMachineFusedSum f machine flush mode x y z) result

-- what holds of each
pub record OfEachFlushed (Holds : (Datum → ℕ → Type 0) → Type 0) (f : Format)
    (machine : Machine) (flush : Flush) : Type 0 where
  pub sum : (mode : Round) (x y : Datum) → Holds (IsFlushedMachineSum f machine flush mode x y)
  pub difference : (mode : Round) (x y : Datum) → Holds (IsFlushedMachineDifference f machine flush mode x y)
  pub product : (mode : Round) (x y : Datum) → Holds (IsFlushedMachineProduct f machine flush mode x y)
  pub quotient : (mode : Round) (x y : Datum) → Holds (IsFlushedMachineQuotient f machine flush mode x y)
  pub fused_sum : (mode : Round) (x y z : Datum) → Holds (IsFlushedMachineFusedSum f machine flush mode x y z)
  pub conversion : (source : Format) (mode : Round) (x : Datum)
      → Holds (IsFlushedMachineConversion source f machine flush mode x)

abbrev pub FlushedMachinesHaveOneAnswer : Format → Machine → Flush → Type 0
FlushedMachinesHaveOneAnswer f machine flush = OfEachFlushed IsOnce f machine flush
