-- The flags that a status raises, and which of them are never raised alone (IEEE 754-2019 7.4, 7.5).
use Rattle.std.specs.Prelude.{ℕ, ◌<◌, bit_and}
use Rattle.apfloat_model.specs.rounding.Rounding.{overflow_bit, underflow_bit, inexact_bit}

-- the status has the flag
abbrev pub Raises : ℕ → ℕ → Type 0
Raises status flag = 0 < bit_and status flag

-- OVERFLOW and UNDERFLOW are raised only together with INEXACT
pub record FlagsGoTogether (status : ℕ) : Type 0 where
  pub overflow : Raises status overflow_bit → Raises status inexact_bit
  pub underflow : Raises status underflow_bit → Raises status inexact_bit
