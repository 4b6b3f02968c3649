-- Where a magnitude is between two neighbouring significands at one place, and how its rest decides the rounding.
use Rattle.std.specs.Prelude.{◌≡◌, ℕ, ◌+◌, ◌*◌, ◌^◌, ◌<◌, ◌≤◌, ◌⊎◌, Bool, false}
use Rattle.apfloat_model.specs.declared.{kinds.Round.Round, loss.Loss.Loss}
use Rattle.apfloat_model.specs.declared.loss.Loss.TheVariants.{ExactlyZero, LessThanHalf, ExactlyHalf, MoreThanHalf}
use Rattle.apfloat_model.specs.rounding.Rounding.{takes_above}

-- The magnitude amount / parts is from m * 2 ^ c to below (m + 1) * 2 ^ c, and m has all digits unless the place is the
-- last. `half` is half of 2 ^ precision.
pub record IsEnclosed (precision half m c amount parts : ℕ) : Type 0 where
  pub double : 2 ^ precision ≡ 2 * half
  pub fits : m < 2 ^ precision
  pub full : (c ≡ 0) ⊎ (half ≤ m)
  pub from : m * 2 ^ c * parts ≤ amount
  pub to : amount < (m + 1) * 2 ^ c * parts

-- whether the mode rounds a significand up, given its loss; a loss decides like a rest of a third, a half or two thirds
abbrev pub rounds_up : Round → Bool → Loss → Bool → Bool
rounds_up mode negative ExactlyZero odd = false
rounds_up mode negative LessThanHalf odd = takes_above mode negative 1 2 odd
rounds_up mode negative ExactlyHalf odd = takes_above mode negative 1 1 odd
rounds_up mode negative MoreThanHalf odd = takes_above mode negative 2 1 odd
