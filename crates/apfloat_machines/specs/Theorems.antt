-- That each operation of a machine has one answer.
use Rattle.std.specs.Prelude.{ℕ, ℤ}
use Rattle.apfloat_model.specs.{Determined.Determines, declared.kinds.Round.Round, declared.status.StatusAnd.StatusAnd}
use Rattle.apfloat_model.specs.{rounding.Flags.Gives, formats.Format.Format, formats.Datum.Datum}
use Rattle.apfloat_model.specs.whole_numbers.WholeNumbersOut.{Whole}
use Rattle.apfloat_machines.specs.declared.machine.Machine.{Machine}
use Rattle.apfloat_machines.specs.Operations.{IsMachineSum, IsMachineDifference, IsMachineProduct, IsMachineQuotient}
use Rattle.apfloat_machines.specs.Operations.{IsMachineTruncatedRemainder, IsMachineNearestRemainder, IsMachineRoot}
use Rattle.apfloat_machines.specs.Operations.{IsMachineIntegralExact, IsMachineIntegral, IsMachineFusedSum}
use Rattle.apfloat_machines.specs.{Conversions.IsMachineConversion, WholeNumbers.IsMachineWhole}

-- at most one value, with its flags, satisfies the relation
abbrev pub IsOnce : (Datum → ℕ → Type 0) → Type 0
IsOnce Says = Determines (λ (answer : StatusAnd Datum). Gives Says answer)

-- what holds of each operation that rounds a result to the format of its operands, but for fused sums
pub record OfEachOperation (Holds : (Datum → ℕ → Type 0) → Type 0) (f : Format) (machine : Machine)
    : Type 0 where
  pub sum : (mode : Round) (x y : Datum) → Holds (IsMachineSum f machine mode x y)
  pub difference : (mode : Round) (x y : Datum) → Holds (IsMachineDifference f machine mode x y)
  pub product : (mode : Round) (x y : Datum) → Holds (IsMachineProduct f machine mode x y)
  pub quotient : (mode : Round) (x y : Datum) → Holds (IsMachineQuotient f machine mode x y)
  pub truncated : (x y : Datum) → Holds (IsMachineTruncatedRemainder f machine x y)
  pub nearest : (x y : Datum) → Holds (IsMachineNearestRemainder f machine x y)
  pub root : (mode : Round) (x : Datum) → Holds (IsMachineRoot f machine mode x)
  pub exact : (mode : Round) (x : Datum) → Holds (IsMachineIntegralExact f machine mode x)
  pub integral : (mode : Round) (x : Datum) → Holds (IsMachineIntegral f machine mode x)

abbrev pub HaveOneAnswer : Format → Machine → Type 0
HaveOneAnswer f machine = OfEachOperation IsOnce f machine

abbrev pub FusedSumsHaveOneAnswer : Type 0
FusedSumsHaveOneAnswer =
    (f : Format) (machine : Machine) (mode : Round) (x y z : Datum) → IsOnce (IsMachineFusedSum f machine mode x y z)

abbrev pub ConversionsHaveOneAnswer : Type 0
ConversionsHaveOneAnswer =
    (f g : Format) (machine : Machine) (mode : Round) (x : Datum) → IsOnce (IsMachineConversion f g machine mode x)

-- of conversions to integers of any width, signed and unsigned
abbrev pub WholeNumbersHaveOneAnswer : Type 0
WholeNumbersHaveOneAnswer =
    (machine : Machine) (x : Datum) (of_nan : ℤ) (whole : Whole)
    → Determines (λ (answer : StatusAnd ℤ). Gives (IsMachineWhole machine x of_nan whole) answer)
