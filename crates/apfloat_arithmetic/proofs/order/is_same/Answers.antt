use Rattle.apfloat_arithmetic.proofs.Comparisons.{same_both, other_class}
use Rattle.apfloat_arithmetic.proofs.order.is_same.Goals as goal

pub returns-then-same_class : goal.returns-then-same_class
returns-then-same_class c =
    λ shape h k. same_both shape c.args.x c.args.y _ _ h k c.same_class.ensures c.same_number.ensures
    c.if-same_class.true

pub returns-else-same_class : goal.returns-else-same_class
returns-else-same_class c =
    λ shape h k. other_class shape c.args.x c.args.y _ h k c.same_class.ensures c.if-same_class.false
