-- OVERFLOW and UNDERFLOW are raised only together with INEXACT, by each operation of a machine, and by each one that
-- flushes tiny results as x86 does. (`Flush.Arm` raises UNDERFLOW alone.)
use Rattle.std.specs.Prelude.{ℕ}
use Rattle.apfloat_model.specs.{declared.kinds.Round.Round, formats.Format.Format, formats.Datum.Datum}
use Rattle.ieee_operations.specs.RaisedFlags.{RaisesTogether}
use Rattle.apfloat_machines.specs.declared.{machine.Machine.Machine, minima.MinimumRule.MinimumRule}
use Rattle.apfloat_machines.specs.{declared.flushing.Flush.TheVariants.X86, Operations.IsMachineFusedSum}
use Rattle.apfloat_machines.specs.{Conversions.IsMachineConversion, Minima.IsLeast, Minima.IsGreatest}
use Rattle.apfloat_machines.specs.WholeNumbers.{IsMachineSigned, IsMachineUnsigned}
use Rattle.apfloat_machines.specs.{Theorems.OfEachOperation, FlushedMachines.OfEachFlushed}

pub record MachineFlagsGoTogether (f : Format) (machine : Machine) : Type 0 where
  pub operations : OfEachOperation RaisesTogether f machine
  pub fused_sum : (mode : Round) (x y z : Datum) → RaisesTogether (IsMachineFusedSum f machine mode x y z)
  pub conversion : (source : Format) (mode : Round) (x : Datum)
      → RaisesTogether (IsMachineConversion source f machine mode x)
  pub least : (rule : MinimumRule) (x y : Datum) → RaisesTogether (IsLeast rule f machine x y)
  pub greatest : (rule : MinimumRule) (x y : Datum) → RaisesTogether (IsGreatest rule f machine x y)
  pub signed : (mode : Round) (width : ℕ) (x : Datum) → RaisesTogether (IsMachineSigned f machine mode width x)
  pub unsigned : (mode : Round) (width : ℕ) (x : Datum) → RaisesTogether (IsMachineUnsigned f machine mode width x)

abbrev pub FlushedFlagsGoTogether : Format → Machine → Type 0
FlushedFlagsGoTogether f machine = OfEachFlushed RaisesTogether f machine X86
