use Rattle.std.proofs.Common.{refl}
use Rattle.apfloat_ieee.proofs.sums.IeeeFloatAddAssign.add_assign.Goals as goal

pub returns : goal.returns
returns g c = record { after = (c.sum.result, c.sum.ensures.sum, refl) }
