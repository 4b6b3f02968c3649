-- Two results of the same operation on the same operands: in any two modes, and rounded downward and upward.
use Rattle.std.specs.Prelude.{◌≡◌, ℕ, ◌⊎◌, true, false}
use Rattle.std.specs.Bool.{Decides}
use Rattle.apfloat_model.specs.declared.kinds.Round.{Round, TheVariants.TowardPositive, TheVariants.TowardNegative}
use Rattle.apfloat_model.specs.{declared.status.StatusAnd.StatusAnd, formats.Datum.Datum}
use Rattle.apfloat_model.specs.order.{Classes.is_nan, Classes.is_zero, Order.is_equal, Order.AtMost}
use Rattle.apfloat_model.specs.rounding.{Flags.bits_of, Rounding.ok_bits}

-- ---- in any two modes

-- if one status is OK, the other result has that value, and status OK
abbrev pub AreSameIfOk : StatusAnd Datum → StatusAnd Datum → Type 0
AreSameIfOk one other =
    bits_of one.status ≡ ok_bits → (other.value ≡ one.value) × (bits_of other.status ≡ ok_bits)

-- the same for sums, where the sign of an exact zero depends on the mode
abbrev pub AreSameIfOkButForZeros : StatusAnd Datum → StatusAnd Datum → Type 0
AreSameIfOkButForZeros one other =
    bits_of one.status ≡ ok_bits
    → ((other.value ≡ one.value) ⊎ ((is_zero one.value ≡ true) × (is_zero other.value ≡ true)))
    × (bits_of other.status ≡ ok_bits)

-- ---- rounded downward and upward

-- the first mode rounds downward, the other upward
pub record AreOutward (mode other : Round) : Type 0 where
  pub downward : mode ≡ TowardNegative
  pub upward : other ≡ TowardPositive

-- the first is at most the second, and they are equal exactly if a status says that the result is exact
pub record AreBounds (IsExact : ℕ → Type 0) (low high : Datum) (low_status high_status : ℕ) : Type 0 where
  pub in_order : AtMost low high
  pub equal_by_low : Decides (is_equal low high) (IsExact low_status)
  pub equal_by_high : Decides (is_equal low high) (IsExact high_status)

-- unless one of them is a NaN
abbrev pub AreBoundsUnlessNan : (ℕ → Type 0) → StatusAnd Datum → StatusAnd Datum → Type 0
AreBoundsUnlessNan IsExact low high =
    is_nan low.value ≡ false → is_nan high.value ≡ false
    → AreBounds IsExact low.value high.value (bits_of low.status) (bits_of high.status)

abbrev pub IsOk : ℕ → Type 0
IsOk status = status ≡ ok_bits

-- The results for a zero are exact too: the infinity of a number divided by it (IEEE 754-2019 7.3), and the zero that
-- it is converted to, even with another sign.
abbrev pub IsOkOrOfZero : Datum → ℕ → Type 0
IsOkOrOfZero operand status = (status ≡ ok_bits) ⊎ (is_zero operand ≡ true)
