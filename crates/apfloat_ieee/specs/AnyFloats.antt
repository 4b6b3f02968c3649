-- A value together with its format.
use Rattle.apfloat_model.specs.formats.{Format.Format, Datum.Datum}
use Rattle.apfloat_rounding.specs.{declared.shape.Shape.Shape, Shapes.format_at}

-- the constants of a format, and a datum of it
pub record AnyDatum : Type 0 where
  pub shape : Shape
  pub datum : Datum

abbrev pub format_in : AnyDatum → Format
format_in x = format_at x.shape
