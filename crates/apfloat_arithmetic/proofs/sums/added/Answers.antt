use Rattle.std.proofs.Common.{rules}
use Rattle.apfloat_arithmetic.proofs.sums.added.Goals as goal

pub returns-in-NaN-clause-stored : goal.returns-in-NaN-clause-stored
returns-in-NaN-clause-stored c = search rules steps 500000

pub returns-in-NaN-clause-datum : goal.returns-in-NaN-clause-datum
returns-in-NaN-clause-datum c = search rules steps 500000
