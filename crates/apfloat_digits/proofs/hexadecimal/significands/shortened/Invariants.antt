use Rattle.apfloat_digits.proofs.hexadecimal_lemmas.AlignedDigits.{IsShortening}
use Rattle.apfloat_digits.proofs.hexadecimal.significands.shortened.Given as goal

abbrev pub invariant-loop-places : goal.invariant-loop-places
invariant-loop-places l = IsShortening l.fraction l.places l.digits

abbrev pub decreases-loop-places : goal.decreases-loop-places
decreases-loop-places l = l.places
