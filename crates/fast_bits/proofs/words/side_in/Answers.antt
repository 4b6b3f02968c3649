use Rattle.std.proofs.Common.{sym, subst, Bool}
use Rattle.fast_bits.specs.Words.{IsWordSide}
use Rattle.fast_bits.proofs.words.side_in.Goals as goal

pub returns-then-negative : goal.returns-then-negative
returns-then-negative c =
    subst (λ (b : Bool). IsWordSide c.args.plan.low c.args.plan.round b c.args.plan.negative)
    (sym c.if-negative.true) c.args.plan.negative_is

pub returns-else-negative : goal.returns-else-negative
returns-else-negative c =
    subst (λ (b : Bool). IsWordSide c.args.plan.low c.args.plan.round b c.args.plan.positive)
    (sym c.if-negative.false) c.args.plan.positive_is
