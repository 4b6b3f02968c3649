-- Rounding to odd: a magnitude that is not a whole number of units becomes the odd one of its two neighbours. If enough
-- digits are left, the result can be rounded again as the magnitude itself would be.
use Rattle.std.specs.Prelude.{◌≡◌, ℕ, ◌+◌, ◌-◌, ◌*◌, ◌/◌, ◌%◌, ◌<◌, ◌≤◌, ◌⊎◌, eqb, if◌then◌else◌}

-- `amount` is less than one unit away from `significand` units, which is odd, and at least `least`
pub record IsNearOdd (least significand amount unit : ℕ) : Type 0 where
  pub long : least ≤ significand
  pub odd : significand % 2 ≡ 1
  pub above : significand * unit < amount + unit
  pub below : amount < (significand + 1) * unit

-- `amount` is `significand` units, or less than one unit away from them if that number is odd and at least `least`
abbrev pub IsRoundedToOdd : ℕ → ℕ → ℕ → ℕ → Type 0
IsRoundedToOdd least significand amount unit =
    (amount ≡ significand * unit) ⊎ IsNearOdd least significand amount unit

-- the quotient rounded to odd, from the integer quotient and its rest
abbrev pub odd_for_rest : ℕ → ℕ → ℕ
odd_for_rest quotient rest = if eqb rest 0 then quotient else quotient + 1 - quotient % 2

-- the quotient of two numbers, rounded to odd
abbrev pub odd_quotient : ℕ → ℕ → ℕ
odd_quotient dividend divisor = odd_for_rest (dividend / divisor) (dividend % divisor)
