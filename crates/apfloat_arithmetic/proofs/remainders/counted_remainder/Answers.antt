use Rattle.std.proofs.Common.{◌∙◌, arith}
use Rattle.std.proofs.Math.Nat.{zero-div}
use Rattle.apfloat_model.specs.arithmetic.Remainders.{truncated_quotient}
use Rattle.apfloat_rounding.specs.{Shapes.format_at, Stored.datum_at}
use Rattle.apfloat_arithmetic.proofs.StepBounds.{few_steps}
use Rattle.apfloat_arithmetic.proofs.SpecialRemainders.{of_numbers, ones_of_numbers, no_ones}
use Rattle.apfloat_arithmetic.proofs.remainders.counted_remainder.Goals as goal

pub returns-then-are_normal-clause-delivered : goal.returns-then-are_normal-clause-delivered
returns-then-are_normal-clause-delivered c =
    let n = c.are_normal.ensures.yes c.if-are_normal.true in
    of_numbers c.args.shape truncated_quotient c.args.x.category c.args.y.category c.args.x c.args.y _ _ n.0 n.1
    c.requires.y c.counted_number.ensures.answer

pub returns-then-are_normal-clause-steps : goal.returns-then-are_normal-clause-steps
returns-then-are_normal-clause-steps c =
    let n = c.are_normal.ensures.yes c.if-are_normal.true in
    c.counted_number.ensures.steps ∙
    ones_of_numbers c.args.shape c.args.x.category c.args.y.category c.args.x c.args.y n.0 n.1 c.requires.y

pub returns-then-are_normal-clause-few : goal.returns-then-are_normal-clause-few
returns-then-are_normal-clause-few c = λ a b h k p.
    let n = c.are_normal.ensures.yes c.if-are_normal.true in
    let e = c.counted_number.ensures.steps ∙
    ones_of_numbers c.args.shape c.args.x.category c.args.y.category c.args.x c.args.y n.0 n.1 c.requires.y in
    rw e (few_steps (format_at c.args.shape) (datum_at c.args.shape c.args.x) (datum_at c.args.shape c.args.y) a b h
    k (rw e at p))

pub returns-else-are_normal-clause-delivered : goal.returns-else-are_normal-clause-delivered
returns-else-are_normal-clause-delivered c = c.special.ensures.delivered truncated_quotient (λ n p. zero-div n)

pub returns-else-are_normal-clause-steps : goal.returns-else-are_normal-clause-steps
returns-else-are_normal-clause-steps c =
    no_ones c.args.shape c.args.x.category c.args.y.category c.args.x c.args.y
    (c.are_normal.ensures.no c.if-are_normal.false)

pub returns-else-are_normal-clause-few : goal.returns-else-are_normal-clause-few
returns-else-are_normal-clause-few c = λ a b h k p. absurd (omega (arith, p))
