-- How many bytes a value or a block of a stream takes.
use Rattle.apfloat_arrays.specs.{declared.Widths.Widths, Widths.source_width, Widths.target_width}
use Rattle.apfloat_arrays.specs.stored.Arrays.{widths_of}
use Rattle.convert_values.specs.{RandomWidths.random_widths, declared.conversions.StreamConversion.StreamConversion}
use Rattle.convert_values.specs.declared.conversions.StreamConversion.TheVariants.{BuiltIn, Stored, Blocks, Random}
use Rattle.convert_values.specs.Blocks.{block_widths}

abbrev pub stream_widths : StreamConversion → Widths
stream_widths (BuiltIn conversion overflow) =
    record { source = source_width conversion; target = target_width conversion }
stream_widths (Stored array) = widths_of array
stream_widths (Blocks conversion) = block_widths conversion
stream_widths (Random conversion) = random_widths conversion
