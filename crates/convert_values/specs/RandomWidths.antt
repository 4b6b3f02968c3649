-- How many bytes a value takes of a stream that random digits round.
use Rattle.std.specs.Prelude.{ℕ}
use Rattle.formats_at_run_time.specs.BuiltIns.{constants_in}
use Rattle.apfloat_arrays.specs.{declared.Extended.Extended, declared.Widths.Widths, Widths.width_of}
use Rattle.apfloat_arrays.specs.stored.Formats.{bits_in as stored_bits}
use Rattle.convert_values.specs.declared.random.RandomConversion.{RandomConversion}
use Rattle.convert_values.specs.declared.random.RandomTarget.{RandomTarget, TheVariants.BuiltIn, TheVariants.Stored}

abbrev pub bits_in : RandomTarget → ℕ
bits_in (BuiltIn format) = (constants_in format).bits
bits_in (Stored format) = stored_bits format

-- a code of a storage format takes one byte
abbrev pub width_in : Extended → RandomTarget → ℕ
width_in extended (BuiltIn format) = width_of format extended
width_in extended (Stored format) = 1

abbrev pub random_widths : RandomConversion → Widths
random_widths conversion =
    record {
      source = width_of conversion.source conversion.extended;
      target = width_in conversion.extended conversion.target;
    }
