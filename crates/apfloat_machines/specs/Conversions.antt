-- Conversions of NaNs between formats (IEEE 754-2019 5.4.2, 6.2.3).
use Rattle.std.specs.Prelude.{ℕ, Bool, ◌&&◌, if◌then◌else◌}
use Rattle.std.specs.Bool.{MatchBool}
use Rattle.apfloat_model.specs.declared.kinds.Round.{Round}
use Rattle.apfloat_model.specs.formats.{Format.Format, Datum.Datum, Nan.invalid_if, Nan.is_signaling_nan}
use Rattle.apfloat_model.specs.{rounding.Answer.IsAnswer, order.Classes.is_nan, arithmetic.Conversions.IsConversion}
use Rattle.apfloat_machines.specs.{declared.machine.Machine.Machine, Nans.default_nan, Nans.takes_none}

-- whether the datum is a NaN that is not kept: the default of the target takes its place
abbrev pub is_lost_nan : Format → Machine → Datum → Bool
is_lost_nan f machine x = is_nan x && takes_none machine.nan_choice f x x

abbrev pub settled_conversion : Format → Format → Machine → Datum → Datum → Datum
settled_conversion f g machine x value = if is_lost_nan f machine x then default_nan g machine else value

-- whether the conversion loses information is not part of it
abbrev pub IsMachineConversion : Format → Format → Machine → Round → Datum → Datum → ℕ → Type 0
IsMachineConversion f g machine mode x value status =
    MatchBool (is_lost_nan f machine x)
    (IsAnswer (default_nan g machine) (invalid_if (is_signaling_nan f x)) value status)
    ((loses : Bool) × IsConversion f g mode x value status loses)
