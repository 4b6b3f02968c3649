use Rattle.std.proofs.Common.{◌+◌, ◌≤◌}
use Rattle.tests.proofs.sweeps.small.magnitude_bits.Given as goal

abbrev pub invariant-loop-significand : goal.invariant-loop-significand
invariant-loop-significand l = l.exponent + l.significand ≤ l.quanta

abbrev pub decreases-loop-significand : goal.decreases-loop-significand
decreases-loop-significand l = l.significand
