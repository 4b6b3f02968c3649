use Rattle.std.proofs.Common.{not, ap}
use Rattle.apfloat_base.proofs.float.Float.is_pos_zero.Goals as goal

pub returns-then-is_zero : goal.returns-then-is_zero
returns-then-is_zero g c = rw (← c.is_zero.ensures, c.if-is_zero.true) (ap not assumption)

pub returns-else-is_zero : goal.returns-else-is_zero
returns-else-is_zero g c = rw (← c.is_zero.ensures, c.if-is_zero.false)
