-- The result of reading a text.
use Rattle.std.specs.Prelude.{List, ℕ}
use Rattle.apfloat_model.specs.declared.{kinds.Round.Round, status.StatusAnd.StatusAnd}
use Rattle.apfloat_model.specs.texts.Readings.{IsReading}
use Rattle.apfloat_rounding.specs.declared.{shape.Shape.Shape, unpacked.Unpacked.Unpacked}
use Rattle.apfloat_rounding.specs.{Shapes.format_at, Stored.IsStored, Stored.GivesAt}

pub record IsTextRead (shape : Shape) (mode : Round) (text : List ℕ) (answer : StatusAnd Unpacked) : Type 0 where
  pub stored : IsStored shape answer.value
  pub reading : GivesAt shape (IsReading (format_at shape) mode text) answer
