-- Significands at a place, which remainders subtract from one another.
use Rattle.std.specs.Prelude.{ℕ, ◌-◌, ◌*◌, ◌^◌, ◌<◌, ◌≤◌}
use Rattle.apfloat_arithmetic.specs.declared.remainders.Magnitude.{Magnitude}

-- the number of units
abbrev pub units_of : Magnitude → ℕ
units_of magnitude = magnitude.significand * 2 ^ magnitude.place

-- a significand of exactly that many digits
pub record HasAllDigits (precision : ℕ) (magnitude : Magnitude) : Type 0 where
  pub fits : magnitude.significand < 2 ^ precision
  pub full : 2 ^ (precision - 1) ≤ magnitude.significand

-- a dividend and a divisor, each of exactly that many digits
pub record AreDivided (precision : ℕ) (x y : Magnitude) : Type 0 where
  pub some : 0 < precision
  pub precise : precision ≤ 125
  pub dividend : HasAllDigits precision x
  pub divisor : HasAllDigits precision y
