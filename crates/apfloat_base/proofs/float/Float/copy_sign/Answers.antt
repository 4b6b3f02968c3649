use Rattle.std.proofs.Common.{rules}
use Rattle.apfloat_base.proofs.float.Float.copy_sign.Goals as goal

pub returns-then-is_negative : goal.returns-then-is_negative
returns-then-is_negative g c = search rules steps 1000000

pub returns-else-is_negative : goal.returns-else-is_negative
returns-else-is_negative g c = search rules steps 1000000
