-- A hexadecimal text of 0 is read as the zero of its sign, whatever its exponent.
use mathlib.Core.Bool.{Bool}
use Rattle.std.proofs.Common.{◌*◌, ◌^◌, arith, pow_pos, ℤ}
use Rattle.apfloat_model.specs.{declared.kinds.Round.Round, formats.Format.Format, formats.Datum.finite}
use Rattle.apfloat_model.specs.{rounding.Rounding.zero_sign, arithmetic.Exact.up, arithmetic.Exact.down}
use Rattle.apfloat_model.specs.texts.Readings.{IsScaledDelivery}
use Rattle.apfloat_model.proofs.rounding.Laws.{zero_delivered}

-- 0 times a power of two is delivered as a zero, with the sign of the text if the format has that zero
pub zero_text : (format : Format) (mode : Round) (negative : Bool) (power : ℤ)
    → IsScaledDelivery format mode negative 0 power (finite (zero_sign format.nonfinite negative) 0) 0
zero_text format mode negative power =
    zero_delivered format mode negative (2 ^ down power) (0 * 2 ^ up power) (pow_pos (down power)) (omega arith)
