-- How many bytes a value takes.
use Rattle.std.specs.Prelude.{ℕ, ◌==◌, if◌then◌else◌}
use Rattle.std.specs.Int.{div_ceil}
use Rattle.rustc_apfloat.specs.Lawful.{Constants}
use Rattle.formats_at_run_time.specs.{declared.built_in.BuiltInFormat.BuiltInFormat, BuiltIns.constants_in}
use Rattle.formats_at_run_time.specs.FlaggedKinds.{format_without_rule}
use Rattle.apfloat_arrays.specs.declared.widths.Extended.{Extended, TheVariants.Packed, TheVariants.Padded}
use Rattle.apfloat_arrays.specs.declared.{widths.Widths.Widths, conversion.Conversion.Conversion}
use Rattle.apfloat_arrays.specs.declared.array.ArrayConversion.{ArrayConversion}

-- how many bytes so many bits take: the fewest, with four in place of three
abbrev pub bytes_of : ℕ → ℕ
bytes_of bits = if div_ceil bits 8 == 3 then 4 else div_ceil bits 8

-- how many bytes a value of a format takes: those of its bits, except that an extended format can be padded to sixteen
abbrev pub width_with : Constants → Extended → ℕ
width_with c Packed = bytes_of c.bits
width_with c Padded = if c.explicit_integer_bit then 16 else bytes_of c.bits

abbrev pub width_of : BuiltInFormat → Extended → ℕ
width_of format extended = width_with (constants_in format) extended

abbrev pub source_width : Conversion → ℕ
source_width conversion = width_of conversion.source conversion.extended

abbrev pub target_width : Conversion → ℕ
target_width conversion = width_of conversion.target conversion.extended

-- the widths in arrays, which are packed
abbrev pub array_widths : ArrayConversion → Widths
array_widths conversion =
    record {
      source = width_of conversion.source Packed;
      target = width_of (format_without_rule conversion.target) Packed;
    }
