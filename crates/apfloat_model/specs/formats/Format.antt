-- A format, its two bounds, and its NaNs (IEEE 754-2019 3.3, 3.4, 6.2.1).
use Rattle.std.specs.Prelude.{ℕ, ◌-◌, ◌*◌, ◌^◌, Bool, true, false}
use Rattle.apfloat_model.specs.declared.kinds.NonfiniteBehavior.{NonfiniteBehavior}
use Rattle.apfloat_model.specs.declared.kinds.NonfiniteBehavior.TheVariants.{IEEE754, NanOnly, NanNegativeZero}

-- Every finite value is a whole number of quanta. The quantum is 2 ^ -scale.
pub record Format : Type 0 where
  pub precision : ℕ
  pub scale : ℕ
  -- the greatest exponent minus the least one
  pub span : ℕ
  pub nonfinite : NonfiniteBehavior
  pub explicit_integer_bit : Bool
  pub tiny_before_rounding : Bool
  -- whether flags are raised as IEEE 754-2019 7.4 and 7.5 require, instead of as in the built-in formats
  pub ieee_flags : Bool

-- in quanta: the least value whose significand has all digits, and the greatest finite value
abbrev pub smallest_normalized : Format → ℕ
smallest_normalized f = 2 ^ (f.precision - 1)

abbrev pub greatest_significand : NonfiniteBehavior → ℕ → ℕ
greatest_significand IEEE754 precision = 2 ^ precision - 1
greatest_significand NanOnly precision = 2 ^ precision - 2
greatest_significand NanNegativeZero precision = 2 ^ precision - 1

abbrev pub largest : Format → ℕ
largest f = greatest_significand f.nonfinite f.precision * 2 ^ f.span

-- the bits that every NaN's significand has, the bits that a payload may set, and the bits that make a NaN quiet
abbrev pub nan_base_of : NonfiniteBehavior → ℕ → ℕ
nan_base_of IEEE754 precision = 0
nan_base_of NanOnly precision = 2 ^ (precision - 1) - 1
nan_base_of NanNegativeZero precision = 0

abbrev pub nan_base : Format → ℕ
nan_base f = nan_base_of f.nonfinite f.precision

abbrev pub payload_mask_of : NonfiniteBehavior → ℕ → ℕ
payload_mask_of IEEE754 precision = 2 ^ (precision - 1) - 1
payload_mask_of NanOnly precision = 0
payload_mask_of NanNegativeZero precision = 0

abbrev pub payload_mask : Format → ℕ
payload_mask f = payload_mask_of f.nonfinite f.precision

abbrev pub quiet_bits_of : NonfiniteBehavior → Bool → ℕ → ℕ
quiet_bits_of IEEE754 false precision = 2 ^ (precision - 2)
quiet_bits_of IEEE754 true precision = 3 * 2 ^ (precision - 2)
quiet_bits_of NanOnly explicit precision = 0
quiet_bits_of NanNegativeZero explicit precision = 0

abbrev pub quiet_bits : Format → ℕ
quiet_bits f = quiet_bits_of f.nonfinite f.explicit_integer_bit f.precision
