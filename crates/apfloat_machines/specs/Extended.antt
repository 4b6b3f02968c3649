-- Products of which an infinity times a zero is 2 with the sign of the product, and raises no flag (FMULX of Arm).
use Rattle.std.specs.Prelude.{ℕ, ◌*◌, ◌^◌}
use Rattle.std.specs.Bool.{MatchBool}
use Rattle.apfloat_model.specs.{declared.kinds.Round.Round, rounding.Answer.IsAnswer, rounding.Rounding.ok_bits}
use Rattle.apfloat_model.specs.formats.{Format.Format, Datum.Datum, Datum.finite}
use Rattle.apfloat_model.specs.{arithmetic.Exact.product_sign, order.Classes.is_negative}
use Rattle.apfloat_machines.specs.declared.{machine.Machine.Machine, flushing.Flush.Flush}
use Rattle.apfloat_machines.specs.{Invalid.is_invalid_product, Operations.IsMachineProduct}
use Rattle.apfloat_machines.specs.FlushedMachines.{IsFlushedMachineProduct}

-- `Says` is what is said of the product otherwise
abbrev pub IsExtended : Format → Datum → Datum → (Datum → ℕ → Type 0) → Datum → ℕ → Type 0
IsExtended f x y Says value status =
    MatchBool (is_invalid_product x y)
    (IsAnswer (finite (product_sign (is_negative x) (is_negative y)) (2 * 2 ^ f.scale)) ok_bits value status)
    (Says value status)

abbrev pub IsExtendedProduct : Format → Machine → Round → Datum → Datum → Datum → ℕ → Type 0
IsExtendedProduct f machine mode x y value status = IsExtended f x y (IsMachineProduct f machine mode x y) value status

abbrev pub IsFlushedExtendedProduct : Format → Machine → Flush → Round → Datum → Datum → Datum → ℕ → Type 0
IsFlushedExtendedProduct f machine flush mode x y value status =
    IsExtended f x y (IsFlushedMachineProduct f machine flush mode x y) value status
