use Rattle.std.proofs.Common.{rules, refl}
use Rattle.apfloat_arithmetic.proofs.SpecialRemainders.{of_zero}
use Rattle.apfloat_arithmetic.proofs.specials.remainder_of_finite.Goals as goal

pub returns-in-Normal-clause-delivered : goal.returns-in-Normal-clause-delivered
returns-in-Normal-clause-delivered c = λ quotient q.
    of_zero c.args.shape quotient c.args.x.category c.args.y.category c.args.x c.args.y _ _ c.requires.finite
    (λ e. c.requires.operands.special e c.in-Normal.is) c.in-Normal.is c.requires.operands.left
    c.requires.operands.right q
    (rw c.and-in-Normal.ensures.value record { value_is = refl; status_is = search })

pub returns-in-Infinity-clause-delivered : goal.returns-in-Infinity-clause-delivered
returns-in-Infinity-clause-delivered c = search rules steps 500000
