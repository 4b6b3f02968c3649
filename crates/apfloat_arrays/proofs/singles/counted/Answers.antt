use Rattle.std.proofs.Common.{refl}
use Rattle.apfloat_arrays.proofs.ConvertedLanes.{lane_counted}
use Rattle.apfloat_arrays.proofs.singles.counted.Goals as goal

pub returns-clause-counts : goal.returns-clause-counts
returns-clause-counts c = λ values.
    let flags = lane_counted c.args.lane in
    rw (
      flags.inexact,
      flags.underflow,
      flags.overflow,
      flags.invalid,
      c.with_lane.ensures.counts,
    ) refl
