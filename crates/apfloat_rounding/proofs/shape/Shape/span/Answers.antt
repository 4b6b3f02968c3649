use Rattle.std.proofs.Common.{rules}
use Rattle.apfloat_rounding.proofs.shape.Shape.span.Goals as goal

pub returns-clause-value : goal.returns-clause-value
returns-clause-value c = search rules steps 500000

pub returns-clause-bound : goal.returns-clause-bound
returns-clause-bound c = search rules steps 500000
