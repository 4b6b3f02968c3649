use Rattle.std.proofs.{Common.w32, lemmas.Int.to_z-of_z}
use Rattle.apfloat_rounding.proofs.rounding.deliver_any.Goals as goal

pub returns-clause-delivered : goal.returns-clause-delivered
returns-clause-delivered c = rw (to_z-of_z w32 c.args.exponent c.ranges.exponent) at c.deliver.ensures.delivered
