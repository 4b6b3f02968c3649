use Rattle.std.proofs.Common.{true, false}
use Rattle.coded_calls.specs.declared.fewer_digits.Precision.TheVariants.{Single}
use Rattle.coded_calls.proofs.FewerDigits.{shorter}
use Rattle.coded_calls.proofs.instructions.with_24_digits.Goals as goal

pub returns-then-tiny_before : goal.returns-then-tiny_before
returns-then-tiny_before c = rw (c.if-tiny_before.true) (c.shortened_to.ensures (shorter true Single))

pub returns-else-tiny_before : goal.returns-else-tiny_before
returns-else-tiny_before c =
    rw (c.if-tiny_before.false) (c.shortened_to-else-tiny_before.ensures (shorter false Single))
