use Rattle.std.proofs.{Common.arith, lemmas.Int.ints}
use Rattle.apfloat_arithmetic.proofs.WideTerms.{is_product_term}
use Rattle.apfloat_arithmetic.proofs.products.product_term.Goals as goal

pub raised_product-product-requires-clause-some : goal.raised_product-product-requires-clause-some
raised_product-product-requires-clause-some c = omega (arith, c.args.shape.parameters.precision_low)

pub far_lowered-requires-clause-short : goal.far_lowered-requires-clause-short
far_lowered-requires-clause-short c = omega (arith, c.raised_product-product.ensures.moved)

pub returns : goal.returns
returns c =
    let factors = c.factors_of-factors.ensures in
    let product = c.raised_product-product in
    is_product_term c.args.shape _ _ _ _ c.factors_of-factors.result.exponent c.far_lowered.result _ _
    product.result.significand product.result.moved c.requires.normal.left c.requires.normal.right factors.negative
    factors.exponent (omega (arith, ints, factors.within, c.far_lowered.ensures.value))
    (rw (factors.left, factors.right) at product.ensures.value) c.far_lowered.ensures.within product.ensures.fits
    product.ensures.full
