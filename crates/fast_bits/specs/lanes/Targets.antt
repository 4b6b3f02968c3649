-- The formats of singles, and those that they are converted to.
use Rattle.std.specs.Prelude.{◌≡◌, ℕ, ◌+◌, ◌-◌, ◌*◌, ◌%◌, ◌^◌, ◌≤◌, ℤ, pos, negsuc, ◌-ℤ◌, ◌≤ℤ◌, unsigned_abs, Bool}
use Rattle.std.specs.Prelude.{true, false, not, ◌&&◌, eqb, if◌then◌else◌}
use Rattle.apfloat_model.specs.{bits.Layout.Layout, declared.kinds.NonfiniteBehavior.NonfiniteBehavior}
use Rattle.apfloat_model.specs.declared.kinds.NonfiniteBehavior.TheVariants.{IEEE754, NanOnly, NanNegativeZero}
use Rattle.apfloat_model.specs.formats.{Format.Format, Format.greatest_significand, Lawful.more_exponents}
use Rattle.apfloat_model.specs.rounding.Standing.{reads_halves}

-- the format of singles (3.6): its quantum is 2 ^ -149
pub record IsSingleFormat (f : Format) (layout : Layout) : Type 0 where
  pub precision : f.precision ≡ 24
  pub scale : f.scale ≡ 149
  pub nonfinite : f.nonfinite ≡ IEEE754
  pub implied : f.explicit_integer_bit ≡ false
  pub bits : layout.bits ≡ 32
  pub exponent_bits : layout.exponent_bits ≡ 8

-- the format with these constants, and an implied integer bit
abbrev pub format_with : ℕ → ℤ → ℤ → NonfiniteBehavior → Bool → Bool → Format
format_with precision min_exp max_exp nonfinite tiny ieee_flags =
    record {
      precision = precision;
      scale = unsigned_abs (pos (precision - 1) -ℤ min_exp);
      span = unsigned_abs (max_exp -ℤ min_exp);
      nonfinite = nonfinite;
      explicit_integer_bit = false;
      tiny_before_rounding = tiny;
      ieee_flags = ieee_flags;
    }

abbrev pub layout_with : ℕ → ℕ → Layout
layout_with bits exp_bits = record { bits = bits; exponent_bits = exp_bits }

-- at most 16 bits and 11 digits, exponents among those of singles, and UNDERFLOW not judged in half quanta
pub record IsTarget (f : Format) (layout : Layout) (min_exp max_exp : ℤ) : Type 0 where
  pub implied : f.explicit_integer_bit ≡ false
  pub precise : 3 ≤ f.precision
  pub exponents : 1 ≤ layout.exponent_bits
  pub widths : layout.bits ≡ f.precision + layout.exponent_bits
  pub span : f.span + 3 ≡ 2 ^ layout.exponent_bits + more_exponents f.nonfinite
  pub bits : layout.bits ≤ 16
  pub digits : f.precision ≤ 11
  pub least : negsuc 125 ≤ℤ min_exp
  pub below : min_exp ≤ℤ negsuc 0
  pub order : min_exp ≤ℤ max_exp
  pub greatest : max_exp ≤ℤ pos 127
  pub rule : reads_halves f ≡ false

-- at most 8 bits and 6 digits, so that the upper half of a single has at least two digits more, and a least normal
-- number far above denormal singles
pub record IsShortFormat (layout : Layout) (precision : ℕ) (min_exp : ℤ) : Type 0 where
  pub bits : layout.bits ≤ 8
  pub digits : precision ≤ 6
  pub least : negsuc 118 ≤ℤ min_exp

-- the encoding of the largest value: its place and its significand, added
abbrev pub largest_code : Format → ℕ
largest_code f = f.span * 2 ^ (f.precision - 1) + greatest_significand f.nonfinite f.precision

-- whether it has infinities
abbrev pub is_ieee : NonfiniteBehavior → Bool
is_ieee IEEE754 = true
is_ieee NanOnly = false
is_ieee NanNegativeZero = false

-- whether it has no negative zero
abbrev pub has_one_zero : NonfiniteBehavior → Bool
has_one_zero IEEE754 = false
has_one_zero NanOnly = false
has_one_zero NanNegativeZero = true

-- whether an encoding stands for zero or for the NaN, neither of which has a sign in formats without negative zeros
abbrev pub has_no_sign : NonfiniteBehavior → ℕ → ℕ → Bool
has_no_sign IEEE754 bits code = false
has_no_sign NanOnly bits code = false
has_no_sign NanNegativeZero bits code = eqb (code % 2 ^ (bits - 1)) 0

-- an encoding with its sign
abbrev pub signed_code : NonfiniteBehavior → ℕ → Bool → ℕ → ℕ
signed_code kind bits negative code =
    (if negative && not (has_no_sign kind bits code) then 2 ^ (bits - 1) else 0) + code
