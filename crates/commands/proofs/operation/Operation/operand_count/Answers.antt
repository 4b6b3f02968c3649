use Rattle.std.proofs.Common.{sym, ap}
use Rattle.commands.specs.Commands.{operand_count}
use Rattle.commands.proofs.operation.Operation.operand_count.Goals as goal

pub returns-in-OfTwo : goal.returns-in-OfTwo
returns-in-OfTwo c = sym (ap operand_count c.in-OfTwo.is)

pub returns-in-FusedSum : goal.returns-in-FusedSum
returns-in-FusedSum c = sym (ap operand_count c.in-FusedSum.is)

pub returns-in-WholeNumber : goal.returns-in-WholeNumber
returns-in-WholeNumber c = sym (ap operand_count c.in-WholeNumber.is)

pub returns-in-Text : goal.returns-in-Text
returns-in-Text c = sym (ap operand_count c.in-Text.is)
