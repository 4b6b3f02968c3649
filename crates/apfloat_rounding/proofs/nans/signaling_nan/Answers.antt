use Rattle.std.proofs.Common.{rules}
use Rattle.apfloat_rounding.proofs.nans.signaling_nan.Goals as goal

pub returns-clause-datum : goal.returns-clause-datum
returns-clause-datum c = search rules steps 500000
