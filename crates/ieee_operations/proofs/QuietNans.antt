-- What is made of a NaN by scaling it.
use Rattle.std.specs.Prelude.{◌≡◌, ℤ, true}
use Rattle.apfloat_model.specs.{declared.kinds.Round.Round, formats.Format.Format}
use Rattle.apfloat_model.specs.formats.Datum.{Datum, finite, infinite, nan}
use Rattle.apfloat_model.specs.{order.Classes.is_nan, arithmetic.Scaling.IsScaling}
use Rattle.ieee_operations.specs.Extrema.{quieted_datum}

pub nan_scaled : (f : Format) (mode : Round) (x : Datum) (j : ℤ) (value : Datum) → is_nan x ≡ true
    → IsScaling f mode x j value → value ≡ quieted_datum f x
nan_scaled f mode (nan b s) j value e h = h
nan_scaled f mode (infinite b) j value e h = cc
nan_scaled f mode (finite b n) j value e h = cc
