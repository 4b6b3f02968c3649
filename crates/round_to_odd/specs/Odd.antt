-- Rounding to odd: an exact result becomes itself if the format has it, and otherwise the one of its two neighbours
-- whose last digit is odd. IEEE 754-2019 has no such mode; a result rounded to odd can be rounded again (Again).
use Rattle.std.specs.{Bool.MatchBool, Int.RustNames.bit_and}
use Rattle.std.specs.Prelude.{◌≡◌, ℕ, ◌+◌, ◌-◌, ◌/◌, ◌%◌, Bool, not, ◌||◌, eqb, ◌==◌, if◌then◌else◌, ◌<◌, ◌≤◌}
use Rattle.apfloat_model.specs.declared.{kinds.Round.TheVariants.TowardZero, status.StatusAnd.StatusAnd}
use Rattle.apfloat_model.specs.formats.Format.{Format, largest}
use Rattle.apfloat_model.specs.formats.Datum.{Datum, finite, infinite, nan}
use Rattle.apfloat_model.specs.rounding.{Flags.Gives, Flags.bits_of, Grid.IsBelow, Grid.IsAbove}
use Rattle.apfloat_model.specs.rounding.Rounding.{delivered_value, delivered_status, inexact_bit, IsDelivered}

-- whether the lower of two neighbours is an odd multiple of their distance
abbrev pub is_odd_below : ℕ → ℕ → Bool
is_odd_below below above = eqb (below / (above - below) % 2) 1

-- the odd one of two neighbours
abbrev pub odd_between : ℕ → ℕ → ℕ
odd_between below above = if is_odd_below below above then below else above

-- The magnitude amount / parts quanta with that sign, rounded to odd. A neighbour past the largest value gives the
-- largest value, even where the last digit of that is even: in the kind `NanOnly`, whose next point is a NaN. The flags
-- are those of rounding toward zero.
pub record IsToOdd (f : Format) (negative : Bool) (amount parts : ℕ) (value : Datum) (status : ℕ) : Type 0 where
  pub below : ℕ
  pub above : ℕ
  pub is_below : IsBelow f.precision below amount parts
  pub is_above : IsAbove f.precision above amount parts
  pub value_is : value ≡ delivered_value f TowardZero negative (odd_between below above)
  pub status_is : status ≡ delivered_status f TowardZero negative amount parts below

-- ---- from the answer toward zero

-- a nonzero or zero count of quanta: itself if its last digit is odd or it is the largest value, otherwise the next
-- point, with that sign
pub record IsMadeOddNumber (f : Format) (negative sign : Bool) (quanta : ℕ) (value : Datum) : Type 0 where
  pub above : ℕ
  pub is_above : IsAbove f.precision above (quanta + 1) 1
  pub value_is : value
      ≡ (if is_odd_below quanta above || eqb quanta (largest f) then finite sign quanta else finite negative above)

-- infinities and NaNs are unchanged
abbrev pub IsMadeOdd : Format → Bool → Datum → Datum → Type 0
IsMadeOdd f negative (finite b n) value = IsMadeOddNumber f negative b n value
IsMadeOdd f negative (infinite b) value = value ≡ infinite b
IsMadeOdd f negative (nan b s) value = value ≡ nan b s

-- whether a status has the flag
abbrev pub has_flag : ℕ → ℕ → Bool
has_flag status flag = not (bit_and status flag == 0)

-- an answer with INEXACT is made odd, any other is unchanged; the status is that of the answer
pub record IsAnswerMadeOdd (f : Format) (negative : Bool) (answer result : StatusAnd Datum) : Type 0 where
  pub status_is : bits_of result.status ≡ bits_of answer.status
  pub value_is : MatchBool (has_flag (bits_of answer.status) inexact_bit)
      (IsMadeOdd f negative answer.value result.value) (result.value ≡ answer.value)

-- ---- theorems

-- the answer toward zero, made odd, is the exact result rounded to odd
abbrev pub IsOddOfTruncated : Type 0
IsOddOfTruncated =
    (f : Format) (negative : Bool) (amount parts : ℕ) (answer result : StatusAnd Datum) → 3 ≤ f.precision → 0 < parts
    → Gives (IsDelivered f TowardZero negative amount parts) answer → IsAnswerMadeOdd f negative answer result
    → Gives (IsToOdd f negative amount parts) result

-- rounding to odd has one answer
abbrev pub IsToOddOnce : Type 0
IsToOddOnce =
    (f : Format) (negative : Bool) (amount parts : ℕ) (answer other : StatusAnd Datum)
    → Gives (IsToOdd f negative amount parts) answer → Gives (IsToOdd f negative amount parts) other → answer ≡ other
