-- Minima and maxima whose sign is chosen (VRANGEPS of x86 and its forms).
use Rattle.std.specs.Prelude.{ℕ, if◌then◌else◌}
use Rattle.apfloat_model.specs.formats.{Format.Format, Datum.Datum, Nan.invalid_if, Nan.is_signaling_nan}
use Rattle.apfloat_model.specs.{rounding.Answer.IsAnswer, rounding.Negation.negated}
use Rattle.apfloat_model.specs.arithmetic.Signs.{abs, copy_sign}
use Rattle.ieee_operations.specs.Extrema.{preferred, quieted_datum}
use Rattle.apfloat_machines.specs.declared.ranges.{RangeRule.RangeRule, RangeSign.RangeSign}
use Rattle.apfloat_machines.specs.declared.ranges.RangeSign.TheVariants.{OfFirst, OfChosen, Positive, Negative}
use Rattle.apfloat_machines.specs.Operations.{is_signaling_of_two}

abbrev pub with_sign_of : RangeSign → Format → Datum → Datum → Datum
with_sign_of OfFirst f first chosen = copy_sign f chosen first
with_sign_of OfChosen f first chosen = chosen
with_sign_of Positive f first chosen = abs f chosen
with_sign_of Negative f first chosen = negated f.nonfinite (abs f chosen)

-- A signaling NaN keeps its sign. Without one, of a quiet NaN and a number the number, of two quiet NaNs the first.
abbrev pub in_range : RangeRule → Format → Datum → Datum → Datum
in_range rule f x y =
    if is_signaling_nan f x then quieted_datum f x
    else (if is_signaling_nan f y then quieted_datum f y
    else with_sign_of rule.sign f x (preferred f rule.extremum x y))

abbrev pub IsRange : RangeRule → Format → Datum → Datum → Datum → ℕ → Type 0
IsRange rule f x y value status =
    IsAnswer (in_range rule f x y) (invalid_if (is_signaling_of_two f x y)) value status
