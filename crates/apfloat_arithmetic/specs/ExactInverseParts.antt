-- Numbers with an exact inverse, in terms of their stored parts.
use Rattle.std.specs.Prelude.{◌≡◌, ℕ, ◌-◌, ◌^◌, ℤ, neg_ℤ, ◌≤ℤ◌}
use Rattle.apfloat_rounding.specs.declared.{shape.Shape.Shape, unpacked.Unpacked.Unpacked}

-- 2 ^ exponent, if neither it nor 2 ^ -exponent is denormal or too large
pub record IsInvertibleAt (s : Shape) (significand : ℕ) (exponent : ℤ) : Type 0 where
  pub power : significand ≡ 2 ^ (s.precision - 1)
  pub normal : s.min_exp ≤ℤ exponent
  pub inverse_normal : s.min_exp ≤ℤ neg_ℤ exponent
  pub inverse_within : neg_ℤ exponent ≤ℤ s.max_exp

-- the inverse of an unpacked number
abbrev pub IsInvertible : Shape → Unpacked → Type 0
IsInvertible s x = IsInvertibleAt s x.significand x.exponent
