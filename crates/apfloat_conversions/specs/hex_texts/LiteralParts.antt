-- The number in a hexadecimal text, after its prefix.
use Rattle.std.specs.Prelude.{◌≡◌, ◌*◌, pos, ◌+ℤ◌, ◌-ℤ◌, ℕ, Bool, List, None}
use Rattle.apfloat_model.specs.declared.{kinds.Round.Round, status.StatusAnd.StatusAnd}
use Rattle.apfloat_model.specs.texts.{Faults.after_prefix_fault, Literals.digits_number, Literals.places_after_dot}
use Rattle.apfloat_model.specs.texts.{Literals.exponent_text, Literals.exponent_number, Readings.IsScaledDelivery}
use Rattle.apfloat_rounding.specs.declared.{shape.Shape.Shape, unpacked.Unpacked.Unpacked}
use Rattle.apfloat_rounding.specs.{Shapes.format_at, Stored.IsStored, Stored.GivesAt}

-- the literal has no fault, and its number is rounded once
pub record IsLiteralRead (shape : Shape) (mode : Round) (negative : Bool) (rest : List ℕ)
    (answer : StatusAnd Unpacked) : Type 0 where
  pub no_fault : after_prefix_fault rest ≡ None
  pub stored : IsStored shape answer.value
  pub delivered : GivesAt shape (IsScaledDelivery (format_at shape) mode negative (digits_number rest)
      ((exponent_number (exponent_text rest) -ℤ pos (4 * places_after_dot rest)) +ℤ pos (format_at shape).scale))
      answer
