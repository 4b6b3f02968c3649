use Rattle.std.proofs.Common.{true, false, ◌∙◌}
use Rattle.apfloat_rounding.specs.Stored.{quanta_of}
use Rattle.apfloat_arithmetic.proofs.Comparisons.{beside_number, both_negative, both_positive}
use Rattle.apfloat_arithmetic.proofs.order.compare_on_one_side.Goals as goal

pub returns-then-x : goal.returns-then-x
returns-then-x c = λ shape h k s.
    let p = beside_number true shape c.args.x c.args.y c.in-Normal.is c.if-x.true h k s in
    c.compare_magnitudes.ensures shape p.1 p.0 ∙ both_negative (quanta_of shape c.args.x) (quanta_of shape c.args.y)
    ∙ p.2

pub returns-else-x : goal.returns-else-x
returns-else-x c = λ shape h k s.
    let p = beside_number false shape c.args.x c.args.y c.in-Normal.is c.if-x.false h k s in
    c.compare_magnitudes-else-x.ensures shape p.0 p.1
    ∙ both_positive (quanta_of shape c.args.x) (quanta_of shape c.args.y) ∙ p.2
