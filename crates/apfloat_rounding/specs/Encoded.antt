-- The layout and the fields that the structs in the code represent.
use Rattle.apfloat_model.specs.bits.Layout.{Layout, Fields}
use Rattle.apfloat_rounding.specs.declared.bits.Widths.{Widths}
use Rattle.apfloat_rounding.specs.declared.bits.Fields.{Fields as Parts}

abbrev pub layout_at : Widths → Layout
layout_at w = record { bits = w.bits; exponent_bits = w.exponent_bits }

abbrev pub fields_at : Parts → Fields
fields_at x = record { negative = x.negative; biased_exponent = x.biased_exponent; trailing = x.trailing }
