use Rattle.std.proofs.Common.{◌-◌}
use Rattle.tests.proofs.Spacings.{IsReached}
use Rattle.tests.proofs.plain.spacing_at.Given as goal

abbrev pub invariant-loop-spacing : goal.invariant-loop-spacing
invariant-loop-spacing l = IsReached l.precision l.amount l.parts l.spacing

abbrev pub decreases-loop-spacing : goal.decreases-loop-spacing
decreases-loop-spacing l = l.amount - l.spacing
