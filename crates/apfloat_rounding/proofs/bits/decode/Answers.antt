use Rattle.std.proofs.Common.{rules}
use Rattle.apfloat_rounding.proofs.bits.decode.Goals as goal

pub returns-then-shape-clause-datum : goal.returns-then-shape-clause-datum
returns-then-shape-clause-datum c = search rules steps 500000

pub returns-else-shape-clause-datum : goal.returns-else-shape-clause-datum
returns-else-shape-clause-datum c = search rules steps 500000
