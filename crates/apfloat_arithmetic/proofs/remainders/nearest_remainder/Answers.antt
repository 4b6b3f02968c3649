use Rattle.apfloat_model.specs.arithmetic.Remainders.{nearest_quotient}
use Rattle.apfloat_arithmetic.proofs.SpecialRemainders.{of_numbers}
use Rattle.apfloat_arithmetic.proofs.remainders.nearest_remainder.Goals as goal

pub returns-then-are_normal-clause-delivered : goal.returns-then-are_normal-clause-delivered
returns-then-are_normal-clause-delivered c =
    let n = c.are_normal.ensures.yes c.if-are_normal.true in
    of_numbers c.args.shape nearest_quotient c.args.x.category c.args.y.category c.args.x c.args.y _ _ n.0 n.1
    c.requires.y c.nearest_number.ensures.answer
