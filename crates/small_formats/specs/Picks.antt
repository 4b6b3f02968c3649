-- A pick by the index of its point, and what is delivered for it.
use Rattle.std.specs.Prelude.{◌≡◌, ℕ, ◌*◌, Bool, eqb}
use Rattle.apfloat_model.specs.declared.kinds.Round.{Round}
use Rattle.apfloat_model.specs.rounding.Rounding.{IsPick, delivered_status}
use Rattle.small_formats.specs.{Codes.datum_of, Codes.point, Conversions.saturated_value}
use Rattle.small_formats.specs.Storage.{StorageConstants, format_with}

-- the point with that index is picked, and is the magnitude itself or not
pub record IsPickedAt (precision : ℕ) (mode : Round) (negative : Bool) (amount parts index : ℕ) (exact : Bool)
    : Type 0 where
  pub is_pick : IsPick precision mode negative amount parts (point precision index)
  pub exact_is : exact ≡ eqb (point precision index * parts) amount

-- what is delivered for the point with that index
pub record IsPointDelivered (c : StorageConstants) (mode : Round) (negative : Bool) (amount parts index code status : ℕ)
    : Type 0 where
  pub value_is : datum_of c code ≡ saturated_value (format_with c) negative (point c.precision index)
  pub status_is : status ≡ delivered_status (format_with c) mode negative amount parts (point c.precision index)
