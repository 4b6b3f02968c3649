use Rattle.std.proofs.Common.{ap}
use Rattle.fast_bits.specs.lanes.At.{format_at, layout_at}
use Rattle.apfloat_arrays.proofs.stored.e3m4_arrays.plan_by.Goals as goal

pub returns : goal.returns
returns c =
    record {
      format = ap format_at c.short_format_plan.ensures.target;
      layout = ap layout_at c.short_format_plan.ensures.target;
      saturates_is = rw c.short_format_plan.ensures.saturates c.saturates.ensures;
      round_is = c.short_format_plan.ensures.round;
    }
