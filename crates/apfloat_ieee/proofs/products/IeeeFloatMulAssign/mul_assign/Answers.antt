use Rattle.std.proofs.Common.{refl}
use Rattle.apfloat_ieee.proofs.products.IeeeFloatMulAssign.mul_assign.Goals as goal

pub returns : goal.returns
returns g c = record { after = (c.product.result, c.product.ensures.product, refl) }
