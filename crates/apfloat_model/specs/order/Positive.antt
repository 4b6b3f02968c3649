-- Positive values.
use Rattle.std.specs.Prelude.{◌≡◌, ◌<◌, false}
use Rattle.apfloat_model.specs.formats.{Datum.Datum, Datum.finite, Format.Format, Members.IsFiniteOf}
use Rattle.apfloat_model.specs.order.Classes.{quanta_of}

-- a positive value of the format
pub record IsPositive (f : Format) (x : Datum) : Type 0 where
  pub is : x ≡ finite false (quanta_of x)
  pub some : 0 < quanta_of x
  pub member : IsFiniteOf f false (quanta_of x)
