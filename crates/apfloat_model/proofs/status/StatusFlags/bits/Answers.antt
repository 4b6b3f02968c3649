use Rattle.std.proofs.Common.{rules}
use Rattle.apfloat_model.proofs.status.StatusFlags.bits.Goals as goal

pub returns : goal.returns
returns c = search rules steps 500000
