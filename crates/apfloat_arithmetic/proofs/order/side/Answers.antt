use Rattle.apfloat_arithmetic.proofs.Comparisons.{side_of_normal}
use Rattle.apfloat_arithmetic.proofs.order.side.Goals as goal

pub returns-then-x-2 : goal.returns-then-x-2
returns-then-x-2 c = λ shape h. side_of_normal shape c.args.x _ c.in-Normal.is c.if-x-2.true h

pub returns-else-x-2 : goal.returns-else-x-2
returns-else-x-2 c = λ shape h. side_of_normal shape c.args.x _ c.in-Normal.is c.if-x-2.false h
