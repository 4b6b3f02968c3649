-- Rounding to nearest, ties toward zero (IEEE 754-2019 9.5): of two neighbours that are as near, the lower magnitude.
use Rattle.std.specs.Prelude.{◌≡◌, ℕ, ◌-◌, ◌*◌, ltb, if◌then◌else◌}
use Rattle.apfloat_model.specs.rounding.Grid.{IsBelow, IsAbove}

-- the neighbour above only if it is nearer
abbrev pub nearer_between : ℕ → ℕ → ℕ → ℕ → ℕ
nearer_between below above amount parts = if ltb (above * parts - amount) (amount - below * parts) then above else below

pub record IsTiesToZeroPick (precision amount parts pick : ℕ) : Type 0 where
  pub below : ℕ
  pub above : ℕ
  pub is_below : IsBelow precision below amount parts
  pub is_above : IsAbove precision above amount parts
  pub is : pick ≡ nearer_between below above amount parts
