-- Formats whose roundings are compared with those of the plain program.
use Rattle.std.specs.Prelude.{ℤ, ◌^◌, ◌<◌, ◌≤◌, ◌≤ℤ◌, pos, negsuc}
use Rattle.rustc_apfloat.specs.Format.{Format}
use Rattle.tests.specs.{declared.plain.Bounds.Bounds, Plain.HasBounds}

-- the bounds of the format, and the exponent of a part of its quantum
pub record IsSubject (f : Format) (bounds : Bounds) (exponent : ℤ) : Type 0 where
  pub has_bounds : HasBounds f bounds
  pub some_digits : 3 ≤ bounds.precision
  pub few_digits : bounds.precision ≤ 60
  pub some_normalized : 0 < bounds.smallest_normalized
  pub few_normalized : bounds.smallest_normalized < 2 ^ 60
  pub far : negsuc 99 ≤ℤ exponent
  pub near : exponent ≤ℤ pos 0
