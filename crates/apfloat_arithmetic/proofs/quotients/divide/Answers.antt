use Rattle.std.proofs.Common.{subst}
use Rattle.apfloat_model.specs.declared.kinds.Category.{Category, TheVariants.Normal}
use Rattle.apfloat_rounding.specs.{Shapes.format_at, Stored.IsStoredBy, Stored.IsNormalAt, Stored.quanta_at}
use Rattle.apfloat_rounding.proofs.StoredBack.{quanta_some}
use Rattle.apfloat_arithmetic.proofs.{ZeroAnswers.some_quotient, SumCases.datum_is}
use Rattle.apfloat_arithmetic.proofs.quotients.divide.Goals as goal

pub returns-then-are_normal-clause-delivered : goal.returns-then-are_normal-clause-delivered
returns-then-are_normal-clause-delivered c =
    let s = c.args.shape in
    let x = c.args.x in
    let y = c.args.y in
    let both = c.are_normal.ensures.yes c.if-are_normal.true in
    let n : IsNormalAt s y.significand y.exponent =
    subst (λ (k : Category). IsStoredBy k s y) both.1 c.requires.right in
    rw (datum_is Normal s x both.0, datum_is Normal s y both.1)
    (some_quotient (format_at s) c.args.round x.negative y.negative (quanta_at s.min_exp x.significand x.exponent)
    (quanta_at s.min_exp y.significand y.exponent) _ _ (quanta_some s y.significand y.exponent n)
    c.divide_numbers.ensures.delivered)
