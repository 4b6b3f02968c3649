use Rattle.commands.proofs.Hexadecimals.{IsWrittenTo}
use Rattle.commands.proofs.output.hexadecimal.Given as goal

abbrev pub invariant-loop-place : goal.invariant-loop-place
invariant-loop-place l = IsWrittenTo l.number l.rest l.place l.text
