use Rattle.apfloat_ieee.proofs.products.IeeeFloatMul.mul.Goals as goal

pub returns : goal.returns
returns g c = c.product.ensures.product
