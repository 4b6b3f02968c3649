-- The constants of a binary format, and when they are consistent.
use Rattle.std.specs.Prelude.{◌≡◌, ◌⊎◌, ℕ, ◌+◌, ◌-◌, ◌^◌, ◌≤◌, ℤ, pos, ◌+ℤ◌, ◌-ℤ◌, ◌≤ℤ◌, neg_ℤ, unsigned_abs, Bool}
use Rattle.std.specs.Prelude.{false, if◌then◌else◌, ⊤}
use Rattle.apfloat_model.specs.declared.kinds.NonfiniteBehavior.{NonfiniteBehavior}
use Rattle.apfloat_model.specs.declared.kinds.NonfiniteBehavior.TheVariants.{IEEE754, NanOnly, NanNegativeZero}
use Rattle.apfloat_model.specs.formats.Format.{Format, nan_base_of, payload_mask_of, quiet_bits_of}
use Rattle.apfloat_model.specs.{bits.Layout.Layout, rounding.Bounds.format_bound}

-- named as in the types of formats
pub record Constants : Type 0 where
  pub bits : ℕ
  pub exp_bits : ℕ
  pub precision : ℕ
  pub nonfinite : NonfiniteBehavior
  pub max_exp : ℤ
  pub ieee_max_exp : ℤ
  pub min_exp : ℤ
  pub ieee_min_exp : ℤ
  pub nan_significand_base : ℕ
  pub nan_payload_mask : ℕ
  pub qnan_significand : ℕ
  pub explicit_integer_bit : Bool
  pub tiny_before_rounding : Bool
  pub ieee_flags : Bool

-- in the order of the types of formats
abbrev pub constants_with : ℕ → ℕ → ℕ → NonfiniteBehavior → ℤ → ℤ → ℤ → ℤ → ℕ → ℕ → ℕ → Bool → Bool → Constants
constants_with bits exp_bits precision nonfinite max_exp ieee_max_exp min_exp ieee_min_exp base mask quiet explicit
    tiny =
    record {
      bits = bits;
      exp_bits = exp_bits;
      precision = precision;
      nonfinite = nonfinite;
      max_exp = max_exp;
      ieee_max_exp = ieee_max_exp;
      min_exp = min_exp;
      ieee_min_exp = ieee_min_exp;
      nan_significand_base = base;
      nan_payload_mask = mask;
      qnan_significand = quiet;
      explicit_integer_bit = explicit;
      tiny_before_rounding = tiny;
      ieee_flags = false;
    }

-- the quantum is the value of the last digit at the least exponent
abbrev pub format_with : Constants → Format
format_with c =
    record {
      precision = c.precision;
      scale = unsigned_abs (pos (c.precision - 1) -ℤ c.min_exp);
      span = unsigned_abs (c.max_exp -ℤ c.min_exp);
      nonfinite = c.nonfinite;
      explicit_integer_bit = c.explicit_integer_bit;
      tiny_before_rounding = c.tiny_before_rounding;
      ieee_flags = c.ieee_flags;
    }

abbrev pub layout_with : Constants → Layout
layout_with c = record { bits = c.bits; exponent_bits = c.exp_bits }

-- a format for computing only
pub record HasNoBits (c : Constants) : Type 0 where
  pub bits : c.bits ≡ 0
  pub exp_bits : c.exp_bits ≡ 0
  pub ieee_min_exp : c.ieee_min_exp ≡ pos 0
  pub ieee_max_exp : c.ieee_max_exp ≡ pos 0
  pub implied : c.explicit_integer_bit ≡ false

-- without infinities, the greatest exponent of IEEE 754 also belongs to numbers
abbrev pub more_exponents : NonfiniteBehavior → ℕ
more_exponents IEEE754 = 0
more_exponents NanOnly = 1
more_exponents NanNegativeZero = 1

-- A format for interchange (3.4, 3.6). Its exponents are those of IEEE 754, all shifted by one bias.
pub record HasBits (c : Constants) : Type 0 where
  pub exp_bits : 1 ≤ c.exp_bits
  pub bits : c.bits ≡ c.exp_bits + c.precision + (if c.explicit_integer_bit then 1 else 0)
  pub bits_high : c.bits ≤ 128
  pub ieee_min_exp : c.ieee_min_exp ≡ pos 2 -ℤ pos (2 ^ (c.exp_bits - 1))
  pub ieee_max_exp : c.ieee_max_exp ≡ pos 1 -ℤ c.ieee_min_exp
  pub max_exp : c.max_exp ≡ c.ieee_max_exp +ℤ (c.min_exp -ℤ c.ieee_min_exp) +ℤ pos (more_exponents c.nonfinite)

-- only a format with infinities may have an explicit integer bit
abbrev pub MayBeExplicit : NonfiniteBehavior → Bool → Type 0
MayBeExplicit IEEE754 explicit = ⊤
MayBeExplicit NanOnly explicit = explicit ≡ false
MayBeExplicit NanNegativeZero explicit = explicit ≡ false

-- the parameters of a format (3.3): its precision, its least and its greatest exponent
pub record AreParameters (precision : ℕ) (min_exp max_exp : ℤ) : Type 0 where
  pub precision_low : 3 ≤ precision
  pub precision_high : precision ≤ 125
  pub min_exp_low : neg_ℤ (pos format_bound) ≤ℤ min_exp
  pub min_exp_high : min_exp ≤ℤ neg_ℤ (pos 1)
  pub max_exp_low : pos precision ≤ℤ max_exp
  pub max_exp_high : max_exp ≤ℤ pos format_bound

-- the law of a format
pub record IsLawful (c : Constants) : Type 0 where
  pub parameters : AreParameters c.precision c.min_exp c.max_exp
  pub layout : HasNoBits c ⊎ HasBits c
  pub explicit : MayBeExplicit c.nonfinite c.explicit_integer_bit
  pub base : c.nan_significand_base ≡ nan_base_of c.nonfinite c.precision
  pub mask : c.nan_payload_mask ≡ payload_mask_of c.nonfinite c.precision
  pub quiet : c.qnan_significand ≡ quiet_bits_of c.nonfinite c.explicit_integer_bit c.precision
