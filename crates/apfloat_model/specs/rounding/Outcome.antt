-- The exact result of an operation, before it is delivered in a mode.
use Rattle.std.specs.Prelude.{ℕ, ◌<◌, ◌||◌, Bool, ℤ}
use Rattle.apfloat_model.specs.declared.kinds.Round.{Round}
use Rattle.apfloat_model.specs.formats.{Format.Format, Datum.Datum, Datum.nan}
use Rattle.apfloat_model.specs.formats.Nan.{invalid_bit, invalid_if, is_signaling, is_signaling_nan, quieted, qnan}
use Rattle.apfloat_model.specs.arithmetic.Exact.{zero_sum_sign, IsRounded}
use Rattle.apfloat_model.specs.rounding.{Answer.IsAnswer, RaisedFlags.FlagsGoTogether, Rounding.ok_bits}
use Rattle.apfloat_model.specs.rounding.{Rounding.IsDelivered, DeliveredRoots.IsDeliveredRoot}

pub data Outcome : Type 0 where
  -- a datum with its flags, as they are
  settled : Datum → ℕ → Outcome
  -- a sign, an amount and parts: amount / parts quanta, rounded once
  rounded : Bool → ℕ → ℕ → Outcome
  -- The signs of two numbers, and their total, exact / parts quanta, rounded once. The mode decides the sign of a zero
  -- that is the total of numbers with different signs (6.3).
  totalled : Bool → Bool → ℤ → ℕ → Outcome
  -- a square and parts: the root of the square, divided by the parts, in quanta, rounded once
  rooted : ℕ → ℕ → Outcome

-- what becomes of an outcome in a format and a mode
abbrev pub Yields : Format → Round → Outcome → Datum → ℕ → Type 0
Yields f mode (settled datum flags) value status = IsAnswer datum flags value status
Yields f mode (rounded negative amount parts) value status = IsDelivered f mode negative amount parts value status
Yields f mode (totalled left right exact parts) value status =
    IsRounded f mode (zero_sum_sign mode left right) exact parts value status
Yields f mode (rooted square parts) value status = IsDeliveredRoot f mode square parts value status

-- an outcome that an operation may have: no division by 0 parts, and flags that can stand together
abbrev pub IsSound : Outcome → Type 0
IsSound (settled datum flags) = FlagsGoTogether flags
IsSound (rounded negative amount parts) = 0 < parts
IsSound (totalled left right exact parts) = 0 < parts
IsSound (rooted square parts) = 0 < parts

-- ---- what the tables are made of

abbrev pub exactly : Datum → Outcome
exactly datum = settled datum ok_bits

abbrev pub invalid : Format → Outcome
invalid f = settled (qnan f 0) invalid_bit

abbrev pub of_nan : Format → Bool → ℕ → Outcome
of_nan f negative significand = settled (nan negative (quieted f significand)) (invalid_if (is_signaling f significand))

abbrev pub of_nans : Format → Bool → ℕ → Datum → Outcome
of_nans f negative significand right =
    settled (nan negative (quieted f significand))
    (invalid_if (is_signaling f significand || is_signaling_nan f right))
