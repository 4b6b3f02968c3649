use Rattle.std.proofs.Common.{List, ℕ, length}
use Rattle.apfloat_conversions.specs.hex_texts.Scans.{IsScan}
use Rattle.apfloat_conversions.proofs.hex_texts.significand.Scan.with_digits.Given as goal

abbrev pub invariant-loop-left : goal.invariant-loop-left
invariant-loop-left l = (rest : List ℕ) → IsScan rest l.text l.fn.self → IsScan rest l.left l.scan

abbrev pub decreases-loop-left : goal.decreases-loop-left
decreases-loop-left l = length l.left
