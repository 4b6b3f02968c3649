-- Minima and maxima of machines: six rules (IEEE 754-2008 5.3.1, IEEE 754-2019 9.6, and three of none).
use Rattle.std.specs.Prelude.{ℕ, Bool, ◌&&◌, ◌||◌, if◌then◌else◌}
use Rattle.apfloat_model.specs.formats.{Format.Format, Datum.Datum, Nan.invalid_if}
use Rattle.apfloat_model.specs.{rounding.Answer.IsAnswer, order.Classes.is_nan, order.Order.is_below}
use Rattle.ieee_operations.specs.Extrema.{lesser, greater}
use Rattle.apfloat_machines.specs.declared.{machine.Machine.Machine, minima.MinimumRule.MinimumRule}
use Rattle.apfloat_machines.specs.declared.minima.MinimumRule.TheVariants.{Second, SecondQuietly, FirstNan, Number2008}
use Rattle.apfloat_machines.specs.declared.minima.MinimumRule.TheVariants.{Number2019, Propagated}
use Rattle.apfloat_machines.specs.{Nans.default_nan, Nans.machine_nan, Operations.is_signaling_of_two}

-- The extremum by a rule. `strictly` says that the first operand is strictly better, which is false of a NaN; `best` is
-- the better of two data that are not NaNs, -0 below +0.
abbrev pub extreme : MinimumRule → Format → Machine → Bool → Datum → Datum → Datum → Datum
extreme Second f machine strictly best x y = if strictly then x else y
extreme SecondQuietly f machine strictly best x y = if strictly then x else y
extreme FirstNan f machine strictly best x y = if is_nan x then x else (if is_nan y then y else best)
extreme Number2008 f machine strictly best x y =
    if is_signaling_of_two f x y || (is_nan x && is_nan y) then machine_nan f machine x y
    else (if is_nan x then y else (if is_nan y then x else best))
extreme Number2019 f machine strictly best x y =
    if is_nan x && is_nan y then default_nan f machine
    else (if is_nan x then y else (if is_nan y then x else best))
extreme Propagated f machine strictly best x y =
    if is_nan x || is_nan y then machine_nan f machine x y else best

-- whether an operand raises INVALID_OP
abbrev pub is_invalid_extreme : MinimumRule → Format → Datum → Datum → Bool
is_invalid_extreme Second f x y = is_nan x || is_nan y
is_invalid_extreme SecondQuietly f x y = is_signaling_of_two f x y
is_invalid_extreme FirstNan f x y = is_signaling_of_two f x y
is_invalid_extreme Number2008 f x y = is_signaling_of_two f x y
is_invalid_extreme Number2019 f x y = is_signaling_of_two f x y
is_invalid_extreme Propagated f x y = is_signaling_of_two f x y

abbrev pub IsLeast : MinimumRule → Format → Machine → Datum → Datum → Datum → ℕ → Type 0
IsLeast rule f machine x y value status =
    IsAnswer (extreme rule f machine (is_below x y) (lesser x y) x y) (invalid_if (is_invalid_extreme rule f x y)) value
    status

abbrev pub IsGreatest : MinimumRule → Format → Machine → Datum → Datum → Datum → ℕ → Type 0
IsGreatest rule f machine x y value status =
    IsAnswer (extreme rule f machine (is_below y x) (greater x y) x y) (invalid_if (is_invalid_extreme rule f x y))
    value status
