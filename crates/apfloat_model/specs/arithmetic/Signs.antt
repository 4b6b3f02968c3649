-- Operations on the sign (IEEE 754-2019 5.5.1; `negated` is the third).
use Rattle.std.specs.Prelude.{not, if◌then◌else◌}
use Rattle.apfloat_model.specs.formats.{Format.Format, Datum.Datum}
use Rattle.apfloat_model.specs.{rounding.Negation.negated, order.Classes.is_negative, arithmetic.Exact.same_sign}

abbrev pub abs : Format → Datum → Datum
abs f x = if is_negative x then negated f.nonfinite x else x

-- x with the sign of y
abbrev pub copy_sign : Format → Datum → Datum → Datum
copy_sign f x y = if not (same_sign (is_negative x) (is_negative y)) then negated f.nonfinite x else x
