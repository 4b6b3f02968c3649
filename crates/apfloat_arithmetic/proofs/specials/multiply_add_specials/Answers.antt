use Rattle.std.proofs.Common.{sym, arith}
use Rattle.apfloat_model.specs.declared.kinds.Category.TheVariants.{Normal, Zero, Infinity, NaN}
use Rattle.apfloat_rounding.specs.Stored.{quanta_at}
use Rattle.apfloat_arithmetic.proofs.SumCases.{datum_is}
use Rattle.apfloat_arithmetic.proofs.specials.multiply_add_specials.Goals as goal

pub returns-in-Normal-category-clause-delivered : goal.returns-in-Normal-category-clause-delivered
returns-in-Normal-category-clause-delivered c =
    let s = c.args.shape in
    rw (datum_is Normal s c.args.x c.in-Normal.is, datum_is Normal s c.args.y c.in-Normal-category.is) assumption

pub returns-in-Zero-category-clause-delivered : goal.returns-in-Zero-category-clause-delivered
returns-in-Zero-category-clause-delivered c =
    let s = c.args.shape in
    let x = c.args.x in
    let y = c.args.y in
    rw (datum_is Normal s x c.in-Normal.is, datum_is Zero s y c.in-Zero-category.is)
    (c.add_to_zero_product.ensures.delivered x.negative y.negative
    (quanta_at s.min_exp x.significand x.exponent) 0 (sym c.product_sign-negative.ensures) (omega arith))

pub returns-in-Infinity-category-clause-delivered : goal.returns-in-Infinity-category-clause-delivered
returns-in-Infinity-category-clause-delivered c =
    let s = c.args.shape in
    let e = datum_is Normal s c.args.x c.in-Normal.is in
    let i = datum_is Infinity s c.args.y c.in-Infinity-category.is in
    rw (e, i) (rw (e, i) at c.add_to_special_product.ensures.delivered)

pub returns-in-NaN-category-clause-delivered : goal.returns-in-NaN-category-clause-delivered
returns-in-NaN-category-clause-delivered c =
    let s = c.args.shape in
    let e = datum_is Normal s c.args.x c.in-Normal.is in
    let i = datum_is NaN s c.args.y c.in-NaN-category.is in
    rw (e, i) (rw (e, i) at c.add_to_special_product-in-NaN-category.ensures.delivered)

pub returns-in-Normal-category-2-clause-delivered : goal.returns-in-Normal-category-2-clause-delivered
returns-in-Normal-category-2-clause-delivered c =
    let s = c.args.shape in
    let x = c.args.x in
    let y = c.args.y in
    rw (datum_is Zero s x c.in-Zero.is, datum_is Normal s y c.in-Normal-category-2.is)
    (c.add_to_zero_product-in-Normal-category-2.ensures.delivered x.negative y.negative 0
    (quanta_at s.min_exp y.significand y.exponent) (sym c.product_sign-negative.ensures) (omega arith))

pub returns-in-Zero-category-2-clause-delivered : goal.returns-in-Zero-category-2-clause-delivered
returns-in-Zero-category-2-clause-delivered c =
    let s = c.args.shape in
    let x = c.args.x in
    let y = c.args.y in
    rw (datum_is Zero s x c.in-Zero.is, datum_is Zero s y c.in-Zero-category-2.is)
    (c.add_to_zero_product-in-Zero-category-2.ensures.delivered x.negative y.negative 0 0
    (sym c.product_sign-negative.ensures) (omega arith))

pub returns-in-Infinity-category-2-clause-delivered : goal.returns-in-Infinity-category-2-clause-delivered
returns-in-Infinity-category-2-clause-delivered c =
    let s = c.args.shape in
    let e = datum_is Zero s c.args.x c.in-Zero.is in
    let i = datum_is Infinity s c.args.y c.in-Infinity-category-2.is in
    rw (e, i) (rw (e, i) at c.add_to_special_product-in-Infinity-category-2.ensures.delivered)

pub returns-in-NaN-category-2-clause-delivered : goal.returns-in-NaN-category-2-clause-delivered
returns-in-NaN-category-2-clause-delivered c =
    let s = c.args.shape in
    let e = datum_is Zero s c.args.x c.in-Zero.is in
    let i = datum_is NaN s c.args.y c.in-NaN-category-2.is in
    rw (e, i) (rw (e, i) at c.add_to_special_product-in-NaN-category-2.ensures.delivered)

pub returns-in-Infinity-clause-delivered : goal.returns-in-Infinity-clause-delivered
returns-in-Infinity-clause-delivered c =
    let e = datum_is Infinity c.args.shape c.args.x c.in-Infinity.is in
    rw e (rw e at c.add_to_special_product-in-Infinity.ensures.delivered)

pub returns-in-NaN-clause-delivered : goal.returns-in-NaN-clause-delivered
returns-in-NaN-clause-delivered c =
    let e = datum_is NaN c.args.shape c.args.x c.in-NaN.is in
    rw e (rw e at c.add_to_special_product-in-NaN.ensures.delivered)
