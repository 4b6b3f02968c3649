use Rattle.std.proofs.Common.{not, ap}
use Rattle.apfloat_base.proofs.float.Float.is_normal.Goals as goal

pub returns-then-is_finite_non_zero : goal.returns-then-is_finite_non_zero
returns-then-is_finite_non_zero g c =
    rw (← c.is_finite_non_zero.ensures, c.if-is_finite_non_zero.true) (ap not assumption)

pub returns-else-is_finite_non_zero : goal.returns-else-is_finite_non_zero
returns-else-is_finite_non_zero g c = rw (← c.is_finite_non_zero.ensures, c.if-is_finite_non_zero.false)
