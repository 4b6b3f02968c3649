-- Values whose significands are rounded to odd to six digits before they are converted to a format of few digits.
use Rattle.std.specs.Prelude.{◌≡◌, ℕ, ◌-◌, ◌*◌, ◌/◌, ◌%◌, ◌^◌, ◌<◌, ◌≤◌, pos}
use Rattle.std.specs.Prelude.{◌+ℤ◌, ◌-ℤ◌, ◌≤ℤ◌, Bool, false, ◌&&◌, not, eqb, List, length}
use Rattle.apfloat_model.specs.declared.kinds.NonfiniteBehavior.TheVariants.{IEEE754}
use Rattle.apfloat_model.specs.rounding.RoundingToOdd.{odd_quotient}
use Rattle.rustc_apfloat.specs.{Lawful.Constants, declared.Round.Round}
use Rattle.small_formats.specs.declared.saturation.saturation.Overflow.{Overflow}
use Rattle.apfloat_arrays.specs.declared.{counts.Outcome.Outcome, widths.Widths.Widths}
use Rattle.apfloat_arrays.specs.{Tables.IsTable, Tasks.HaveWidths, Values.IsAnswerAt}

-- z has six digits, and the exponents of c
pub record IsShortFor (c z : Constants) : Type 0 where
  pub digits : z.precision ≡ 6
  pub more : 6 ≤ c.precision
  pub exp_bits : c.exp_bits ≡ z.exp_bits
  pub least : c.min_exp ≡ z.min_exp
  pub nonfinite : c.nonfinite ≡ IEEE754
  pub short_nonfinite : z.nonfinite ≡ IEEE754
  pub implied : c.explicit_integer_bit ≡ false
  pub short_implied : z.explicit_integer_bit ≡ false

-- at least two digits fewer than six, and a quantum of at least eight quanta of the format of six digits
pub record IsCoarseFor (z d : Constants) : Type 0 where
  pub precision : d.precision ≤ 4
  pub quantum : ((pos d.precision -ℤ d.min_exp) +ℤ pos 3) ≤ℤ (pos z.precision -ℤ z.min_exp)

-- the conversions from c to d are those from z, of values rounded to odd
pub record AreShortened (c z d : Constants) (widths : Widths) : Type 0 where
  pub short : IsShortFor c z
  pub coarse : IsCoarseFor z d
  pub source_bits : c.bits ≤ 32
  pub target_bits : d.bits ≤ 8
  pub source : 8 * widths.source ≡ c.bits
  pub target : widths.target ≡ 1

-- there is a table of the conversions from z to d
pub record HasShortTable (overflow : Overflow) (c z d : Constants) (mode : Round) (values : List ℕ)
    (outcomes : List Outcome) (source target : ℕ) : Type 0 where
  pub widths : HaveWidths c d source target
  pub listed : z.precision < z.bits
  pub short : AreShortened c z d (record { source = source; target = target })
  pub size : length values ≡ 2 ^ z.bits
  pub all : length outcomes ≡ 2 ^ z.bits
  pub table : IsTable (IsAnswerAt overflow z d mode) 1 (2 ^ z.bits) values outcomes

-- the bits of the value of six digits that a value of c rounded to odd becomes: the last of them stands for all that
-- are cut off
abbrev pub short_of : Constants → ℕ → ℕ
short_of c bits = odd_quotient bits (2 ^ (c.precision - 6))

-- whether the bits are those of a NaN of c
abbrev pub is_nan_of : Constants → ℕ → Bool
is_nan_of c bits =
    eqb (bits / 2 ^ (c.precision - 1) % 2 ^ c.exp_bits) (2 ^ c.exp_bits - 1)
    && not (eqb (bits % 2 ^ (c.precision - 1)) 0)
