-- The NaN that a machine delivers (IEEE 754-2019 6.2.3, 7.2).
use Rattle.std.specs.Prelude.{Bool, true, false, not, ◌&&◌, ◌||◌, if◌then◌else◌}
use Rattle.apfloat_model.specs.formats.{Format.Format, Datum.Datum, Datum.finite, Datum.infinite, Datum.nan}
use Rattle.apfloat_model.specs.formats.Nan.{is_signaling, quieted, qnan, is_signaling_nan}
use Rattle.apfloat_model.specs.{rounding.Negation.negated, order.Classes.is_nan, order.Classes.is_negative}
use Rattle.ieee_operations.specs.{Extrema.quieted_datum, TotalOrder.total_order_mag}
use Rattle.apfloat_machines.specs.declared.machine.{Machine.Machine, NanChoice.NanChoice}
use Rattle.apfloat_machines.specs.declared.machine.NanChoice.TheVariants.{First, SignalingFirst, SignalingLast, Greater}
use Rattle.apfloat_machines.specs.declared.machine.NanChoice.TheVariants.{AlwaysDefault}

-- the quiet NaN with the machine's sign and payload
abbrev pub default_nan : Format → Machine → Datum
default_nan f machine =
    let positive = qnan f machine.default_payload in
    if machine.default_is_negative then negated f.nonfinite positive else positive

-- A NaN that its quiet bit does not make quiet: its integer bit is written, and is not set. The x87 unit does not take
-- it, nor the bits that are read as it.
abbrev pub is_unsupported : Format → Datum → Bool
is_unsupported f (nan b s) = is_signaling f (quieted f s)
is_unsupported f (infinite b) = false
is_unsupported f (finite b n) = false

-- ---- of two operands, at least one of which is a NaN

-- of two NaNs, whether the first is greater in the total order of magnitudes (5.10), or the same and positive: a quiet
-- NaN is above a signaling one there, and otherwise the significand decides
abbrev pub is_greater : Format → Datum → Datum → Bool
is_greater f x y = total_order_mag f y x && not (total_order_mag f x y && is_negative x)

abbrev pub signaling_first : Format → Datum → Datum → Datum
signaling_first f x y =
    if is_signaling_nan f x then x
    else (if is_signaling_nan f y then y else (if is_nan x then x else y))

-- the NaN that is taken, as it is
abbrev pub taken : NanChoice → Format → Datum → Datum → Datum
taken First f x y = if is_nan x then x else y
taken SignalingFirst f x y = signaling_first f x y
taken SignalingLast f x y = signaling_first f y x
taken Greater f x y = if is_nan x && (not (is_nan y) || is_greater f x y) then x else y
taken AlwaysDefault f x y = if is_nan x then x else y

-- whether none is taken
abbrev pub takes_none : NanChoice → Format → Datum → Datum → Bool
takes_none First f x y = false
takes_none SignalingFirst f x y = false
takes_none SignalingLast f x y = false
takes_none Greater f x y = is_unsupported f x || is_unsupported f y
takes_none AlwaysDefault f x y = true

-- the NaN that is delivered, if an operand is a NaN
abbrev pub nan_of : Format → Machine → Datum → Datum → Datum
nan_of f machine x y =
    if takes_none machine.nan_choice f x y then default_nan f machine
    else quieted_datum f (taken machine.nan_choice f x y)

-- ---- of any two operands of an operation whose result is a NaN

abbrev pub machine_nan : Format → Machine → Datum → Datum → Datum
machine_nan f machine x y = if is_nan x || is_nan y then nan_of f machine x y else default_nan f machine

-- the value that a machine makes of the value of an operation on two operands
abbrev pub settled : Format → Machine → Datum → Datum → Datum → Datum
settled f machine x y value = if is_nan value then machine_nan f machine x y else value
