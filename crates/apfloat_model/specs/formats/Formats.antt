-- The formats of the library that have bits (IEEE 754-2019 3.6, and others in use).
use Rattle.std.specs.Prelude.{ℕ, ◌-◌, ◌^◌, ℤ, pos, neg_ℤ, Bool, true, false, ◌-ℤ◌}
use Rattle.apfloat_model.specs.declared.kinds.NonfiniteBehavior.{NonfiniteBehavior}
use Rattle.apfloat_model.specs.declared.kinds.NonfiniteBehavior.TheVariants.{IEEE754, NanOnly, NanNegativeZero}
use Rattle.apfloat_model.specs.formats.Format.{nan_base_of, payload_mask_of, quiet_bits_of}
use Rattle.apfloat_model.specs.formats.Lawful.{Constants}

-- the constants of an interchange format, from its widths and exponents
abbrev pub interchange : ℕ → ℕ → ℕ → NonfiniteBehavior → ℤ → ℤ → Bool → Constants
interchange bits exp_bits precision kind max_exp min_exp explicit =
    record {
      bits = bits;
      exp_bits = exp_bits;
      precision = precision;
      nonfinite = kind;
      max_exp = max_exp;
      ieee_max_exp = pos (2 ^ (exp_bits - 1) - 1);
      min_exp = min_exp;
      ieee_min_exp = pos 2 -ℤ pos (2 ^ (exp_bits - 1));
      nan_significand_base = nan_base_of kind precision;
      nan_payload_mask = payload_mask_of kind precision;
      qnan_significand = quiet_bits_of kind explicit precision;
      explicit_integer_bit = explicit;
      tiny_before_rounding = false;
      ieee_flags = false;
    }

abbrev pub half_constants : Constants
half_constants = interchange 16 5 11 IEEE754 (pos 15) (neg_ℤ (pos 14)) false

abbrev pub single_constants : Constants
single_constants = interchange 32 8 24 IEEE754 (pos 127) (neg_ℤ (pos 126)) false

abbrev pub double_constants : Constants
double_constants = interchange 64 11 53 IEEE754 (pos 1023) (neg_ℤ (pos 1022)) false

abbrev pub quad_constants : Constants
quad_constants = interchange 128 15 113 IEEE754 (pos 16383) (neg_ℤ (pos 16382)) false

abbrev pub bfloat_constants : Constants
bfloat_constants = interchange 16 8 8 IEEE754 (pos 127) (neg_ℤ (pos 126)) false

abbrev pub e5m2_constants : Constants
e5m2_constants = interchange 8 5 3 IEEE754 (pos 15) (neg_ℤ (pos 14)) false

abbrev pub e4m3fn_constants : Constants
e4m3fn_constants = interchange 8 4 4 NanOnly (pos 8) (neg_ℤ (pos 6)) false

abbrev pub e4m3fnuz_constants : Constants
e4m3fnuz_constants = interchange 8 4 4 NanNegativeZero (pos 7) (neg_ℤ (pos 7)) false

abbrev pub e4m3_constants : Constants
e4m3_constants = interchange 8 4 4 IEEE754 (pos 7) (neg_ℤ (pos 6)) false

abbrev pub e5m2fnuz_constants : Constants
e5m2fnuz_constants = interchange 8 5 3 NanNegativeZero (pos 15) (neg_ℤ (pos 15)) false

abbrev pub e4m3b11fnuz_constants : Constants
e4m3b11fnuz_constants = interchange 8 4 4 NanNegativeZero (pos 4) (neg_ℤ (pos 10)) false

abbrev pub tf32_constants : Constants
tf32_constants = interchange 19 8 11 IEEE754 (pos 127) (neg_ℤ (pos 126)) false

abbrev pub x87_constants : Constants
x87_constants = interchange 80 15 64 IEEE754 (pos 16383) (neg_ℤ (pos 16382)) true
