use Rattle.std.proofs.Common.{rules}
use Rattle.apfloat_rounding.proofs.nans.invalid.Goals as goal

pub returns-clause-stored : goal.returns-clause-stored
returns-clause-stored c = rw c.and.ensures.value c.quiet_nan.ensures.stored

pub returns-clause-delivered : goal.returns-clause-delivered
returns-clause-delivered c = search rules steps 500000
