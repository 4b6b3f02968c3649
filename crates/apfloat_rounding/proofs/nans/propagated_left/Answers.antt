use Rattle.std.proofs.Common.{rules}
use Rattle.apfloat_rounding.proofs.nans.propagated_left.Goals as goal

pub returns-clause-delivered : goal.returns-clause-delivered
returns-clause-delivered c = search rules steps 500000
