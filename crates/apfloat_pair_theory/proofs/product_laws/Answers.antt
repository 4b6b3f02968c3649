use Rattle.apfloat_pair_theory.proofs.products.PairProductLaws.{error_free_product, accurate_product}
use Rattle.apfloat_pair_theory.proofs.product_laws.Goals as goal

pub returns-clause-error_free : goal.returns-clause-error_free
returns-clause-error_free c = error_free_product

pub returns-clause-accurate : goal.returns-clause-accurate
returns-clause-accurate c = accurate_product
