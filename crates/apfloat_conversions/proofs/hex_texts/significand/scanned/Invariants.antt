use Rattle.std.proofs.Common.{length}
use Rattle.apfloat_conversions.specs.hex_texts.Scans.{IsScan}
use Rattle.apfloat_conversions.proofs.hex_texts.significand.scanned.Given as goal

abbrev pub invariant-loop-left : goal.invariant-loop-left
invariant-loop-left l = IsScan l.rest l.left l.scan

abbrev pub decreases-loop-left : goal.decreases-loop-left
decreases-loop-left l = length l.left
