-- Denormal operands and results that are flushed to zero, which IEEE 754 does not have.
use Rattle.std.specs.Prelude.{◌≡◌, ℕ, ◌+◌, Bool, not, ◌&&◌, ◌||◌, ltb, if◌then◌else◌}
use Rattle.apfloat_model.specs.declared.kinds.Round.{Round}
use Rattle.apfloat_model.specs.formats.{Format.Format, Datum.Datum, Constants.zero_datum}
use Rattle.apfloat_model.specs.rounding.Rounding.{underflow_bit, inexact_bit, signed_quanta, IsPick, is_tiny}
use Rattle.apfloat_model.specs.rounding.{Rounding.delivered_value, Rounding.delivered_status, Answer.IsAnswer}
use Rattle.apfloat_model.specs.{order.Classes.is_nan, order.Classes.is_denormal, arithmetic.Signs.copy_sign}
use Rattle.ieee_operations.specs.StatusFlags.{is_raised}
use Rattle.apfloat_machines.specs.declared.flushing.Flush.{Flush, TheVariants.X86, TheVariants.Arm}

-- the zero with the sign of a datum
abbrev pub zero_like : Format → Datum → Datum
zero_like f x = copy_sign f zero_datum x

-- an operand: a denormal one is a zero of its sign
abbrev pub without_denormal : Format → Datum → Datum
without_denormal f x = if is_denormal f x then zero_like f x else x

-- whether an operand is denormal, and none is a NaN
abbrev pub has_denormal : Format → Datum → Datum → Bool
has_denormal f x y = not (is_nan x || is_nan y) && (is_denormal f x || is_denormal f y)

-- whether a result is tiny: exact, it is denormal; inexact, it raises UNDERFLOW, and may have been rounded to a normal
-- number or to zero
abbrev pub is_flushed : Format → Datum → ℕ → Bool
is_flushed f value status = is_raised status underflow_bit || is_denormal f value

-- the flags of a result that is flushed
abbrev pub flush_flags : Flush → ℕ
flush_flags X86 = underflow_bit + inexact_bit
flush_flags Arm = underflow_bit

-- a result, given what it is without flushing
abbrev pub IsFlushed : Format → Flush → Datum → ℕ → Datum → ℕ → Type 0
IsFlushed f flush given flags value status =
    IsAnswer (if is_flushed f given flags then zero_like f given else given)
    (if is_flushed f given flags then flush_flags flush else flags) value status

-- ---- from the exact result

-- Whether the magnitude amount / parts quanta with that sign is flushed: it is not zero, and it is tiny by the rule of
-- the format (7.5), even if it is exact.
abbrev pub flushes : Format → Round → Bool → ℕ → ℕ → ℕ → Bool
flushes f mode negative amount parts pick = ltb 0 amount && is_tiny f mode negative amount parts pick

-- the magnitude with that sign: rounded once, or the zero of that sign with the flags of flushing
pub record IsRoundedOrFlushed (f : Format) (flush : Flush) (mode : Round) (negative : Bool) (amount parts : ℕ)
    (value : Datum) (status : ℕ) : Type 0 where
  pub pick : ℕ
  pub is_pick : IsPick f.precision mode negative amount parts pick
  pub value_is : value
      ≡ (if flushes f mode negative amount parts pick then signed_quanta f.nonfinite negative 0
      else delivered_value f mode negative pick)
  pub status_is : status
      ≡ (if flushes f mode negative amount parts pick then flush_flags flush
      else delivered_status f mode negative amount parts pick)
