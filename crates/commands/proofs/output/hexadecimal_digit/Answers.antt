use Rattle.std.proofs.{Common.arith, lemmas.Bool.lt-ltb, lemmas.Bool.le-ltb}
use Rattle.commands.proofs.output.hexadecimal_digit.Goals as goal

pub returns-then-digit-lt10 : goal.returns-then-digit-lt10
returns-then-digit-lt10 c = rw (lt-ltb _ _ c.if-digit-lt10.true)

pub returns-else-digit-lt10 : goal.returns-else-digit-lt10
returns-else-digit-lt10 c = rw (le-ltb _ _ c.if-digit-lt10.false) (omega arith)
