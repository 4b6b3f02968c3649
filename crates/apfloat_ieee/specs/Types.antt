-- The constants, the format and the layout of a format type.
use Rattle.apfloat_model.specs.formats.{Format.Format, Lawful.Constants, Lawful.constants_with, Lawful.format_with}
use Rattle.apfloat_model.specs.{formats.Lawful.layout_with, bits.Layout.Layout}
use Rattle.apfloat_ieee.specs.declared.semantics.Semantics.{Ghosts}

abbrev pub constants_of : {X : Type 0} → Ghosts X → Constants
constants_of s =
    constants_with s.BITS s.EXP_BITS s.PRECISION s.NONFINITE_BEHAVIOR s.MAX_EXP s.IEEE_MAX_EXP s.MIN_EXP
    s.IEEE_MIN_EXP
    s.NAN_SIGNIFICAND_BASE s.NAN_PAYLOAD_MASK s.QNAN_SIGNIFICAND s.EXPLICIT_INTEGER_BIT s.TINY_BEFORE_ROUNDING

abbrev pub format_of : {X : Type 0} → Ghosts X → Format
format_of s = format_with (constants_of s)

abbrev pub layout_of : {X : Type 0} → Ghosts X → Layout
layout_of s = layout_with (constants_of s)
