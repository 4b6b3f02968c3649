-- The constants of a storage format: a sign, an exponent and a significand in at most 8 bits, all of whose codes are
-- numbers.
use Rattle.std.specs.Prelude.{ℕ, ◌-◌, ◌^◌, ◌<◌, ◌≤◌, ℤ, pos, neg_ℤ, ◌-ℤ◌, ◌≤ℤ◌, unsigned_abs, false}
use Rattle.apfloat_model.specs.{declared.kinds.NonfiniteBehavior.TheVariants.IEEE754, formats.Format.Format}
use Rattle.apfloat_model.specs.rounding.Bounds.{format_bound}

-- named as in the types of storage formats
pub record StorageConstants : Type 0 where
  pub bits : ℕ
  pub precision : ℕ
  pub min_exp : ℤ

abbrev pub constants_with : ℕ → ℕ → ℤ → StorageConstants
constants_with bits precision min_exp = record { bits = bits; precision = precision; min_exp = min_exp }

-- The law. The exponent has at least one bit.
pub record IsLawfulStorage (c : StorageConstants) : Type 0 where
  pub precision_low : 2 ≤ c.precision
  pub exponent : c.precision < c.bits
  pub bits_high : c.bits ≤ 8
  pub min_exp_low : neg_ℤ (pos format_bound) ≤ℤ c.min_exp
  pub min_exp_high : c.min_exp ≤ℤ pos 0

-- The numbers of the format as those of a format of the model: the quantum, the digits, and the exponents. What is past
-- the largest number never occurs, so the kind of infinities and NaNs does not matter; this one has a negative zero.
abbrev pub format_with : StorageConstants → Format
format_with c =
    record {
      precision = c.precision;
      scale = unsigned_abs (pos (c.precision - 1) -ℤ c.min_exp);
      span = 2 ^ (c.bits - c.precision) - 2;
      nonfinite = IEEE754;
      explicit_integer_bit = false;
      tiny_before_rounding = false;
      ieee_flags = false;
    }
