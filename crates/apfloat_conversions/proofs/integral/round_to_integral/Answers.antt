use Rattle.std.proofs.Common.{rules}
use Rattle.apfloat_conversions.proofs.integral.round_to_integral.Goals as goal

pub returns-in-Zero-clause-delivered : goal.returns-in-Zero-clause-delivered
returns-in-Zero-clause-delivered c = search rules steps 500000
