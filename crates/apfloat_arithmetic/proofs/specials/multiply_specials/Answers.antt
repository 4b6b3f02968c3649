use Rattle.std.proofs.Common.{arith}
use Rattle.apfloat_model.specs.declared.kinds.Category.TheVariants.{Normal, Zero}
use Rattle.apfloat_rounding.specs.{Shapes.format_at, Stored.quanta_of}
use Rattle.apfloat_arithmetic.proofs.SumCases.{datum_is}
use Rattle.apfloat_arithmetic.proofs.ZeroAnswers.{zero_product, number_by_infinity, infinity_by_number}
use Rattle.apfloat_arithmetic.proofs.specials.multiply_specials.Goals as goal

pub returns-in-Zero-category-clause-delivered : goal.returns-in-Zero-category-clause-delivered
returns-in-Zero-category-clause-delivered c = λ mode.
    let s = c.args.shape in
    let x = c.args.x in
    rw (datum_is Normal s x c.in-Normal.is, datum_is Zero s c.args.y c.in-Zero-category.is)
    (zero_product (format_at s) mode x.negative c.args.y.negative _ (quanta_of s x) 0 _ _
    c.product_sign-negative.ensures (omega arith) (c.exact_zero.ensures.delivered mode))

pub returns-in-Infinity-category-clause-delivered : goal.returns-in-Infinity-category-clause-delivered
returns-in-Infinity-category-clause-delivered c = λ mode.
    number_by_infinity c.args.shape mode c.args.x c.args.y _ _ _ c.in-Normal.is c.in-Infinity-category.is
    c.requires.left c.product_sign-negative.ensures c.exact_infinity.ensures.answer

pub returns-in-Normal-category-2-clause-delivered : goal.returns-in-Normal-category-2-clause-delivered
returns-in-Normal-category-2-clause-delivered c = λ mode.
    let s = c.args.shape in
    let y = c.args.y in
    rw (datum_is Zero s c.args.x c.in-Zero.is, datum_is Normal s y c.in-Normal-category-2.is)
    (zero_product (format_at s) mode c.args.x.negative y.negative _ 0 (quanta_of s y) _ _
    c.product_sign-negative.ensures (omega arith) (c.exact_zero-in-Normal-category-2.ensures.delivered mode))

pub returns-in-Normal-category-3-clause-delivered : goal.returns-in-Normal-category-3-clause-delivered
returns-in-Normal-category-3-clause-delivered c = λ mode.
    infinity_by_number c.args.shape mode c.args.x c.args.y _ _ _ c.in-Infinity.is c.in-Normal-category-3.is
    c.requires.right c.product_sign-negative.ensures c.exact_infinity-in-Normal-category-3.ensures.answer
