use Rattle.std.proofs.Common.{rules}
use Rattle.apfloat_conversions.proofs.integers.status_of.Goals as goal

pub returns-else-exact : goal.returns-else-exact
returns-else-exact c = search rules steps 500000
