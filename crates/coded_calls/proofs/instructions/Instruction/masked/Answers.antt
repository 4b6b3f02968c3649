use Rattle.coded_calls.proofs.FewerDigits.{all_left, fewer_left}
use Rattle.coded_calls.proofs.instructions.Instruction.masked.Goals as goal

pub returns-in-None : goal.returns-in-None
returns-in-None c =
    all_left c.args.self c.args.call c.args.rounding c.args.answer.now c.with_all_digits.new.answer
    c.with_all_digits.result c.in-None.ensures c.with_all_digits.ensures

pub returns-in-Some : goal.returns-in-Some
returns-in-Some c =
    fewer_left c.args.self c.args.call c.args.rounding c.args.answer.now c.in-Some.short c.in-Some.ensures
