use Rattle.std.proofs.Common.{refl, sym}
use Rattle.coded_calls.proofs.instructions.Instruction.with_fewer_digits.Goals as goal

pub returns-in-None : goal.returns-in-None
returns-in-None c = rw (sym c.in-None.ensures) refl

pub returns-in-Some : goal.returns-in-Some
returns-in-Some c = rw (sym c.in-Some.ensures, sym c.is_tiny_before-tiny_before.ensures) c.shortened.ensures
