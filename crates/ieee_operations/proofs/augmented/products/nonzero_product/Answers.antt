use Rattle.apfloat_model.specs.rounding.Flags.{bits_of}
use Rattle.ieee_operations.proofs.augmented.products.nonzero_product.Goals as goal

pub within_product-requires-clause-product : goal.within_product-requires-clause-product
within_product-requires-clause-product g c = record {
  left = c.requires.left;
  right = c.requires.right;
  status = bits_of c.wide_mul_r-near.result.status;
  is = c.wide_mul_r-near.ensures;
}

pub past_product-requires-clause-product : goal.past_product-requires-clause-product
past_product-requires-clause-product g c = record {
  left = c.requires.left;
  right = c.requires.right;
  status = bits_of c.wide_mul_r-near.result.status;
  is = c.wide_mul_r-near.ensures;
}
