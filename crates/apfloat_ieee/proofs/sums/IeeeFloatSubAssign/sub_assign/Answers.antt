use Rattle.std.proofs.Common.{refl}
use Rattle.apfloat_ieee.proofs.sums.IeeeFloatSubAssign.sub_assign.Goals as goal

pub returns : goal.returns
returns g c = record { after = (c.difference.result, c.difference.ensures.difference, refl) }
