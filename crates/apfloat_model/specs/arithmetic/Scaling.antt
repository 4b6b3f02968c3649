-- A datum times 2 to the power j (IEEE 754-2019 5.3.3, scaleB), rounded once; its status is not returned.
use Rattle.std.specs.Prelude.{◌≡◌, ℕ, ◌*◌, ◌^◌, ℤ}
use Rattle.apfloat_model.specs.{declared.kinds.Round.Round, formats.Format.Format}
use Rattle.apfloat_model.specs.formats.{Datum.Datum, Datum.finite, Datum.infinite, Datum.nan, Nan.quieted}
use Rattle.apfloat_model.specs.{rounding.Rounding.IsDelivered, arithmetic.Exact.up, arithmetic.Exact.down}

abbrev pub IsScaling : Format → Round → Datum → ℤ → Datum → Type 0
IsScaling f mode (nan b s) j value = value ≡ nan b (quieted f s)
IsScaling f mode (infinite b) j value = value ≡ infinite b
IsScaling f mode (finite b n) j value = (status : ℕ) × IsDelivered f mode b (n * 2 ^ up j) (2 ^ down j) value status
