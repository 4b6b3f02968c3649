use Rattle.std.proofs.Common.{rules}
use Rattle.apfloat_rounding.proofs.bits.split.Goals as goal

pub returns : goal.returns
returns c = search rules steps 500000
