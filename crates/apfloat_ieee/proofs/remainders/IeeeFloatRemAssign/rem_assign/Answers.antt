use Rattle.std.proofs.Common.{refl}
use Rattle.apfloat_ieee.proofs.remainders.IeeeFloatRemAssign.rem_assign.Goals as goal

pub returns : goal.returns
returns g c = record { after = (c.truncated.result, c.truncated.ensures, refl) }
