use Rattle.std.proofs.Common.{refl}
use Rattle.apfloat_ieee.proofs.products.IeeeFloatDivAssign.div_assign.Goals as goal

pub returns : goal.returns
returns g c = record { after = (c.quotient.result, c.quotient.ensures, refl) }
