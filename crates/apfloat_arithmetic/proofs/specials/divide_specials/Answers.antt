use Rattle.apfloat_model.specs.declared.kinds.Category.TheVariants.{Normal, Zero, Infinity}
use Rattle.apfloat_rounding.specs.{Shapes.format_at, Stored.quanta_of}
use Rattle.apfloat_arithmetic.proofs.SumCases.{datum_is}
use Rattle.apfloat_arithmetic.proofs.ZeroAnswers.{zero_quotient, number_by_zero, quotient_by_infinity}
use Rattle.apfloat_arithmetic.proofs.specials.divide_specials.Goals as goal

pub returns-in-Zero-category-clause-delivered : goal.returns-in-Zero-category-clause-delivered
returns-in-Zero-category-clause-delivered c = λ mode.
    number_by_zero c.args.shape mode c.args.x c.args.y _ _ _ c.in-Normal.is c.in-Zero-category.is c.requires.left
    c.product_sign-negative.ensures c.divided_by_zero.ensures.answer

pub returns-in-Infinity-category-clause-delivered : goal.returns-in-Infinity-category-clause-delivered
returns-in-Infinity-category-clause-delivered c = λ mode.
    let s = c.args.shape in
    let x = c.args.x in
    rw (datum_is Normal s x c.in-Normal.is, datum_is Infinity s c.args.y c.in-Infinity-category.is)
    (quotient_by_infinity (format_at s) mode x.negative c.args.y.negative _ (quanta_of s x) _ _
    c.product_sign-negative.ensures c.exact_zero.ensures.answer)

pub returns-in-Normal-category-2-clause-delivered : goal.returns-in-Normal-category-2-clause-delivered
returns-in-Normal-category-2-clause-delivered c = λ mode.
    zero_quotient c.args.shape mode c.args.x c.args.y _ _ _ c.in-Zero.is c.in-Normal-category-2.is c.requires.right
    c.product_sign-negative.ensures (c.exact_zero-in-Normal-category-2.ensures.delivered mode)

pub returns-in-Infinity-category-2-clause-delivered : goal.returns-in-Infinity-category-2-clause-delivered
returns-in-Infinity-category-2-clause-delivered c = λ mode.
    let s = c.args.shape in
    let x = c.args.x in
    rw (datum_is Zero s x c.in-Zero.is, datum_is Infinity s c.args.y c.in-Infinity-category-2.is)
    (quotient_by_infinity (format_at s) mode x.negative c.args.y.negative _ 0 _ _ c.product_sign-negative.ensures
    c.exact_zero-in-Infinity-category-2.ensures.answer)
