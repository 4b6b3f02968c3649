-- The contract of sums in the aliases of the formats.
use Rattle.std.specs.Prelude.{ℕ}
use Rattle.rustc_apfloat.specs.{declared.Round.Round, declared.StatusAnd.StatusAnd, Datum.Datum, Flags.bits_of}
use Rattle.rustc_apfloat.specs.Lawful.{Constants, format_with, layout_with}
use Rattle.rustc_apfloat.specs.{Layout.datum_of, Layout.IsEncodedBy, Sums.IsSum}

-- the value that a bit pattern encodes in the format with these constants
abbrev decoded : Constants → ℕ → Datum
decoded c bits = datum_of (format_with c) (layout_with c) bits

-- the bits and the flags of the sum of two values that are given as bits, in the format with these constants
pub record IsSumOfBits (c : Constants) (mode : Round) (x y : ℕ) (sum : StatusAnd ℕ) : Type 0 where
  pub value : Datum
  pub is_sum : IsSum (format_with c) mode (decoded c x) (decoded c y) value (bits_of sum.status)
  pub is_encoded : IsEncodedBy (format_with c) (layout_with c) sum.value value
