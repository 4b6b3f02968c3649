-- The format that a shape describes.
use Rattle.std.specs.Prelude.{◌-◌, pos, unsigned_abs, ◌-ℤ◌}
use Rattle.apfloat_model.specs.formats.Format.{Format}
use Rattle.apfloat_rounding.specs.declared.shape.Shape.{Shape}

abbrev pub format_at : Shape → Format
format_at s =
    record {
      precision = s.precision;
      scale = unsigned_abs (pos (s.precision - 1) -ℤ s.min_exp);
      span = unsigned_abs (s.max_exp -ℤ s.min_exp);
      nonfinite = s.nonfinite;
      explicit_integer_bit = s.explicit_integer_bit;
      tiny_before_rounding = s.tiny_before_rounding;
      ieee_flags = s.ieee_flags;
    }
