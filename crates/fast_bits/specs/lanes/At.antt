-- The format and the layout of a target.
use Rattle.apfloat_model.specs.{bits.Layout.Layout, formats.Format.Format}
use Rattle.fast_bits.specs.declared.lanes.constants.Target.{Target}
use Rattle.fast_bits.specs.lanes.Targets.{format_with, layout_with}

abbrev pub format_at : Target → Format
format_at t = format_with t.precision t.min_exp t.max_exp t.nonfinite t.tiny_before_rounding t.ieee_flags

abbrev pub layout_at : Target → Layout
layout_at t = layout_with t.bits t.exp_bits
