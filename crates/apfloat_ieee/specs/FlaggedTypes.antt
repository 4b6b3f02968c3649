-- The constants, the format and the layout of a format type with its flags.
use Rattle.apfloat_model.specs.formats.{Format.Format, Lawful.Constants, Lawful.constants_with, Lawful.format_with}
use Rattle.apfloat_model.specs.{formats.Lawful.layout_with, bits.Layout.Layout}
use Rattle.apfloat_ieee.specs.declared.flagged.Flagged.{Ghosts}
use Rattle.apfloat_rounding.specs.declared.shape.Shape.{Shape}

abbrev pub constants_of : {X : Type 0} → Ghosts X → Constants
constants_of s =
    record (constants_with s.BITS s.EXP_BITS s.PRECISION s.NONFINITE_BEHAVIOR s.MAX_EXP s.IEEE_MAX_EXP s.MIN_EXP
    s.IEEE_MIN_EXP
    s.NAN_SIGNIFICAND_BASE s.NAN_PAYLOAD_MASK s.QNAN_SIGNIFICAND s.EXPLICIT_INTEGER_BIT s.TINY_BEFORE_ROUNDING)
    { ieee_flags = s.IEEE_FLAGS }

abbrev pub format_of : {X : Type 0} → Ghosts X → Format
format_of s = format_with (constants_of s)

abbrev pub layout_of : {X : Type 0} → Ghosts X → Layout
layout_of s = layout_with (constants_of s)

-- the constants that rounding reads
abbrev pub shape_of : {X : Type 0} → Ghosts X → Shape
shape_of s =
    record {
      precision = s.PRECISION;
      min_exp = s.MIN_EXP;
      max_exp = s.MAX_EXP;
      nonfinite = s.NONFINITE_BEHAVIOR;
      explicit_integer_bit = s.EXPLICIT_INTEGER_BIT;
      tiny_before_rounding = s.TINY_BEFORE_ROUNDING;
      ieee_flags = s.IEEE_FLAGS;
      parameters = s.lawful.parameters;
    }
