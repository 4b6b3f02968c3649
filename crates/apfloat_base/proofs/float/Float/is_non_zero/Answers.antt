use Rattle.std.proofs.Common.{ap, not}
use Rattle.apfloat_base.proofs.float.Float.is_non_zero.Goals as goal

pub returns : goal.returns
returns g c = ap not c.is_zero.ensures
