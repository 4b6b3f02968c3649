-- Random digits handed to a conversion.
use Rattle.std.specs.Prelude.{ℕ, ◌^◌, ◌<◌, ◌≤◌}

-- 1 to 32 random binary digits, as a number
pub record AreRandomDigits (digits random : ℕ) : Type 0 where
  pub some : 1 ≤ digits
  pub few : digits ≤ 32
  pub fits : random < 2 ^ digits
