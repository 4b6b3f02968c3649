use Rattle.std.proofs.Common.{length}
use Rattle.apfloat_conversions.specs.hex_texts.Payloads.{IsPayloadRead}
use Rattle.apfloat_conversions.proofs.hex_texts.digits.number_of_digits.Given as goal

abbrev pub invariant-loop-left : goal.invariant-loop-left
invariant-loop-left l = IsPayloadRead l.radix l.digits l.left l.number

abbrev pub decreases-loop-left : goal.decreases-loop-left
decreases-loop-left l = length l.left
