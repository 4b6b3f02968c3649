-- Minima and maxima of two data (IEEE 754-2019 9.6).
use Rattle.std.specs.Prelude.{ℕ, if◌then◌else◌}
use Rattle.apfloat_model.specs.formats.{Format.Format, Datum.Datum, Datum.finite, Datum.infinite, Datum.nan}
use Rattle.apfloat_model.specs.{formats.Nan.quieted, formats.Nan.invalid_if, rounding.Answer.IsAnswer}
use Rattle.apfloat_model.specs.{arithmetic.Signs.abs, order.Classes.is_nan, order.Order.is_below}
use Rattle.ieee_operations.specs.declared.predicates.OnNan.TheVariants.{Quiet}
use Rattle.ieee_operations.specs.declared.extrema.Extremum.{Extremum, TheVariants.Minimum}
use Rattle.ieee_operations.specs.declared.extrema.Extremum.TheVariants.{Maximum, MinimumMagnitude, MaximumMagnitude}
use Rattle.ieee_operations.specs.{Comparisons.is_invalid, TotalOrder.numbers_in_order}

-- ---- data that are not NaNs

-- -0 is below +0; of identical data it does not matter which is returned
abbrev pub lesser : Datum → Datum → Datum
lesser x y = if numbers_in_order x y then x else y

abbrev pub greater : Datum → Datum → Datum
greater x y = if numbers_in_order y x then x else y

abbrev pub chosen : Format → Extremum → Datum → Datum → Datum
chosen f Minimum x y = lesser x y
chosen f Maximum x y = greater x y
chosen f MinimumMagnitude x y =
    if is_below (abs f x) (abs f y) then x else (if is_below (abs f y) (abs f x) then y else lesser x y)
chosen f MaximumMagnitude x y =
    if is_below (abs f y) (abs f x) then x else (if is_below (abs f x) (abs f y) then y else greater x y)

-- ---- all data

-- the datum, or the quiet NaN that operations make of a NaN (6.2.3)
abbrev pub quieted_datum : Format → Datum → Datum
quieted_datum f (nan b s) = nan b (quieted f s)
quieted_datum f (infinite b) = infinite b
quieted_datum f (finite b n) = finite b n

-- a quiet NaN if an operand is a NaN, made of the left one if both are
abbrev pub propagated : Format → Extremum → Datum → Datum → Datum
propagated f which x y =
    if is_nan x then quieted_datum f x else (if is_nan y then quieted_datum f y else chosen f which x y)

-- the only operand that is not a NaN, if there is one such operand
abbrev pub preferred : Format → Extremum → Datum → Datum → Datum
preferred f which x y =
    if is_nan x
    then (if is_nan y then quieted_datum f x else y)
    else (if is_nan y then x else chosen f which x y)

-- the extremum, with INVALID_OP if an operand is a signaling NaN, and no other flag
abbrev pub IsExtremum : Format → Extremum → Datum → Datum → Datum → ℕ → Type 0
IsExtremum f which x y value status =
    IsAnswer (propagated f which x y) (invalid_if (is_invalid f Quiet x y)) value status

abbrev pub IsExtremumNumber : Format → Extremum → Datum → Datum → Datum → ℕ → Type 0
IsExtremumNumber f which x y value status =
    IsAnswer (preferred f which x y) (invalid_if (is_invalid f Quiet x y)) value status
