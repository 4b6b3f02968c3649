-- What is rounded or flushed is no NaN: what is flushed is a zero.
use Rattle.std.proofs.Common.{◌≡◌, ℕ, Bool, false, if◌then◌else◌}
use Rattle.apfloat_model.specs.declared.kinds.{Round.Round, NonfiniteBehavior.TheVariants.IEEE754}
use Rattle.apfloat_model.specs.{formats.Format.Format, formats.Datum.Datum, order.Classes.is_nan}
use Rattle.apfloat_model.specs.rounding.Outcome.{Outcome, settled, rounded, totalled, rooted}
use Rattle.apfloat_model.specs.rounding.Rounding.{signed_quanta, delivered_value}
use Rattle.apfloat_machines.specs.{declared.flushing.Flush.Flush, Flushing.flushes, Flushing.IsRoundedOrFlushed}
use Rattle.apfloat_machines.specs.FlushedOperations.{YieldsFlushed}
use Rattle.apfloat_machines.proofs.Usual.{IsSettledOrNumber, number_if, quanta_number, value_number, is_of, root_number}

-- the exact result of numbers, rounded once or flushed
rounded_number : (f : Format) (flush : Flush) (mode : Round) (negative : Bool) (amount parts : ℕ) (value : Datum)
    (status : ℕ) → f.nonfinite ≡ IEEE754 → IsRoundedOrFlushed f flush mode negative amount parts value status
    → is_nan value ≡ false
rounded_number f flush mode negative amount parts value status e h =
    is_of value
    (if flushes f mode negative amount parts h.pick then signed_quanta f.nonfinite negative 0
    else delivered_value f mode negative h.pick) false h.value_is
    (number_if (flushes f mode negative amount parts h.pick) (signed_quanta f.nonfinite negative 0)
    (delivered_value f mode negative h.pick) (quanta_number f.nonfinite negative 0)
    (value_number f mode negative h.pick e))

pub flushed_settled_or_number : (f : Format) (flush : Flush) (mode : Round) (outcome : Outcome) (value : Datum)
    (status : ℕ) → f.nonfinite ≡ IEEE754 → YieldsFlushed f flush mode outcome value status
    → IsSettledOrNumber outcome value status
flushed_settled_or_number f flush mode (settled datum flags) value status e h = h
flushed_settled_or_number f flush mode (rounded negative amount parts) value status e h =
    rounded_number f flush mode negative amount parts value status e h
flushed_settled_or_number f flush mode (totalled left right exact parts) value status e h =
    rounded_number f flush mode _ _ parts value status e h
flushed_settled_or_number f flush mode (rooted square parts) value status e h =
    root_number f mode square parts value status e h
