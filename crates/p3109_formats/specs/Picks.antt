-- What is delivered for the point with an index.
use Rattle.std.specs.Prelude.{◌≡◌, ℕ, ◌+◌, ◌-◌, ◌*◌, ◌<◌, ◌≤◌, Bool}
use Rattle.apfloat_model.specs.declared.kinds.Round.{Round}
use Rattle.small_formats.specs.{declared.RandomDigits.RandomDigits, Codes.point}
use Rattle.p3109_formats.specs.{declared.descriptor.Descriptor.Descriptor, Projections.projected_datum}
use Rattle.p3109_formats.specs.{Projections.projected_status, Projections.projected_value, Rules.reaches_next}

pub record IsProjectedAt (c : Descriptor) (mode : Round) (leads negative : Bool) (amount parts index code status : ℕ)
    : Type 0 where
  pub value_is : projected_datum c code ≡ projected_value c leads negative index
  pub status_is : status ≡ projected_status c mode negative amount parts index

-- whether a random number takes a magnitude to the point above it
pub record IsAway (precision : ℕ) (mode : Round) (bits : RandomDigits) (amount parts : ℕ) (away : Bool)
    : Type 0 where
  pub low : ℕ
  pub from : point precision low * parts ≤ amount
  pub to : amount < point precision (low + 1) * parts
  pub is : away
      ≡ reaches_next mode bits (amount - point precision low * parts) (point precision (low + 1) * parts - amount)
