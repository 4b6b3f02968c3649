use Rattle.std.proofs.Math.Nat.{zero-div}
use Rattle.apfloat_model.specs.arithmetic.Remainders.{truncated_quotient}
use Rattle.apfloat_arithmetic.proofs.SpecialRemainders.{of_numbers}
use Rattle.apfloat_arithmetic.proofs.remainders.truncated_remainder.Goals as goal

pub returns-then-are_normal-clause-delivered : goal.returns-then-are_normal-clause-delivered
returns-then-are_normal-clause-delivered c =
    let n = c.are_normal.ensures.yes c.if-are_normal.true in
    of_numbers c.args.shape truncated_quotient c.args.x.category c.args.y.category c.args.x c.args.y _ _ n.0 n.1
    c.requires.y c.truncated_number.ensures.answer

pub returns-else-are_normal-clause-delivered : goal.returns-else-are_normal-clause-delivered
returns-else-are_normal-clause-delivered c = c.special.ensures.delivered truncated_quotient (λ n p. zero-div n)
