use Rattle.std.proofs.Common.{rules}
use Rattle.apfloat_conversions.proofs.integral.is_integer.Goals as goal

pub returns-in-Zero : goal.returns-in-Zero
returns-in-Zero c = search rules steps 500000
