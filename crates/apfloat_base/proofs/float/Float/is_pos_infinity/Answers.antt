use Rattle.std.proofs.Common.{not, ap}
use Rattle.apfloat_base.proofs.float.Float.is_pos_infinity.Goals as goal

pub returns-then-is_infinite : goal.returns-then-is_infinite
returns-then-is_infinite g c = rw (← c.is_infinite.ensures, c.if-is_infinite.true) (ap not assumption)

pub returns-else-is_infinite : goal.returns-else-is_infinite
returns-else-is_infinite g c = rw (← c.is_infinite.ensures, c.if-is_infinite.false)
