use Rattle.std.proofs.Common.{rules}
use Rattle.apfloat_model.proofs.status.StatusFlags.from_bits_retain.Goals as goal

pub returns : goal.returns
returns c = search rules steps 500000
