-- The mode that rounds a magnitude of a sign to the neighbour above it, or to the one below it; and which of them
-- random digits choose.
use Rattle.std.specs.Prelude.{◌≡◌, ℕ, ◌+◌, ◌-◌, ◌*◌, ◌/◌, ◌^◌, Bool, ◌||◌, leb, ltb, if◌then◌else◌}
use Rattle.apfloat_model.specs.declared.kinds.Round.{Round, TheVariants.TowardPositive, TheVariants.TowardNegative}
use Rattle.apfloat_model.specs.{declared.kinds.Round.TheVariants.TowardZero, formats.Format.Format}
use Rattle.apfloat_model.specs.{formats.Format.largest, rounding.Grid.IsBelow, rounding.Grid.IsAbove}

abbrev pub direction : Bool → Bool → Round
direction away negative = if away then (if negative then TowardNegative else TowardPositive) else TowardZero

-- whether the parts of the distance from the neighbour below and the random number reach the whole together
abbrev pub reaches : ℕ → ℕ → ℕ → ℕ → Bool
reaches digits random below_by above_by = leb (2 ^ digits) (2 ^ digits * below_by / (below_by + above_by) + random)

-- A magnitude is rounded away from zero if the random number takes the neighbour above, and also if both neighbours are
-- past the largest value, where only modes that lead away from zero deliver what the modes to nearest do.
pub record IsDirection (f : Format) (digits random amount parts : ℕ) (away : Bool) : Type 0 where
  pub below : ℕ
  pub above : ℕ
  pub is_below : IsBelow f.precision below amount parts
  pub is_above : IsAbove f.precision above amount parts
  pub is : away
      ≡ (ltb (largest f) below || reaches digits random (amount - below * parts) (above * parts - amount))
