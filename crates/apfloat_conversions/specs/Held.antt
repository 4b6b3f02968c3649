-- When every number of one shape, or every number with a given exponent, is also a number of another.
use Rattle.std.specs.Prelude.{◌≡◌, ◌-◌, ◌*◌, ◌^◌, ◌≤◌, ◌⊎◌, ℤ, pos, ◌+ℤ◌, ◌≤ℤ◌}
use Rattle.apfloat_model.specs.formats.Format.{greatest_significand}
use Rattle.apfloat_rounding.specs.{declared.shape.Shape.Shape, declared.unpacked.Unpacked.Unpacked, Shapes.format_at}

-- with equal greatest exponents, the greatest significands decide
pub record IsReachedLevel (from into : Shape) : Type 0 where
  pub exponents : from.max_exp ≡ into.max_exp
  pub significands : greatest_significand from.nonfinite from.precision * 2 ^ (into.precision - from.precision)
      ≤ greatest_significand into.nonfinite into.precision

-- the largest value is at most that of the other shape, if the precision is at most the other's
abbrev pub IsReached : Shape → Shape → Type 0
IsReached from into = ((from.max_exp +ℤ pos 1) ≤ℤ into.max_exp) ⊎ IsReachedLevel from into

pub record IsHeld (from into : Shape) : Type 0 where
  pub precise : from.precision ≤ into.precision
  pub fine : (format_at from).scale ≤ (format_at into).scale
  pub reached : IsReached from into

-- the other shape has at least as many digits, all of them at this exponent, and larger numbers at the next one
pub record IsInside (from into : Shape) (exponent : ℤ) : Type 0 where
  pub precise : from.precision ≤ into.precision
  pub least : into.min_exp ≤ℤ exponent
  pub below : (exponent +ℤ pos 1) ≤ℤ into.max_exp

-- every number of the one shape with this exponent is a number of the other
abbrev pub IsHeldAt : Shape → Shape → ℤ → Type 0
IsHeldAt from into exponent = IsHeld from into ⊎ IsInside from into exponent

-- an unpacked number of the one shape is a number of the other
abbrev pub IsHeldNumber : Shape → Shape → Unpacked → Type 0
IsHeldNumber from into x = IsHeldAt from into x.exponent
