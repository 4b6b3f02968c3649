use Rattle.std.proofs.Common.{rules}
use Rattle.apfloat_base.proofs.float.Float.from_i128_r.Goals as goal

pub returns-then-input-lt0 : goal.returns-then-input-lt0
returns-then-input-lt0 g c = search rules steps 1000000
