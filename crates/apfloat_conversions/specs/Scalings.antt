-- A datum times 2 to the power j (IEEE 754-2019 5.3.3, scaleB), rounded once, with its status. The value is that of
-- `IsScaling`.
use Rattle.std.specs.Prelude.{ℕ, ◌*◌, ◌^◌, ℤ}
use Rattle.apfloat_model.specs.{declared.kinds.Round.Round, formats.Format.Format}
use Rattle.apfloat_model.specs.formats.{Datum.Datum, Datum.finite, Datum.infinite, Datum.nan, Nan.IsOfNan}
use Rattle.apfloat_model.specs.rounding.{Answer.IsAnswer, Rounding.ok_bits, Rounding.IsDelivered}
use Rattle.apfloat_model.specs.arithmetic.Exact.{up, down}

abbrev pub IsScaled : Format → Round → Datum → ℤ → Datum → ℕ → Type 0
IsScaled f mode (nan b s) j value status = IsOfNan f b s value status
IsScaled f mode (infinite b) j value status = IsAnswer (infinite b) ok_bits value status
IsScaled f mode (finite b n) j value status = IsDelivered f mode b (n * 2 ^ up j) (2 ^ down j) value status
