use Rattle.apfloat_model.specs.rounding.Flags.{bits_of}
use Rattle.apfloat_pair_theory.proofs.products.PairProductLaws.{error_free_product, accurate_product}
use Rattle.rustc_apfloat.proofs.double_doubles_lemmas.PairSteps.{product_by_categories}
use Rattle.rustc_apfloat.proofs.double_doubles.products.product.Goals as goal

pub returns-clause-product : goal.returns-clause-product
returns-clause-product c =
    product_by_categories c.args.round c.args.x c.args.y _ _ _ _ c.category.ensures.category
    c.category-2.ensures.category c.product_of_categories.ensures

pub returns-clause-error_free : goal.returns-clause-error_free
returns-clause-error_free c e =
    error_free_product c.args.x c.args.y _ (bits_of c.product_of_categories.result.status) c.category.ensures.high
    c.category-2.ensures.high (rw e at (returns-clause-product c))

pub returns-clause-accurate : goal.returns-clause-accurate
returns-clause-accurate c e =
    accurate_product c.args.x c.args.y _ (bits_of c.product_of_categories.result.status)
    (rw e at (returns-clause-product c))
