use Rattle.coded_calls.specs.{Instructions.IsDelivered, Instructions.IsInstructionAnswer, MachineCalls.machine_fault}
use Rattle.coded_calls.proofs.MadeInstructions.{left_answered, left_by}
use Rattle.coded_calls.proofs.instructions.Instruction.answered.Goals as goal

pub returns : goal.returns
returns c =
    let it = c.args.self in
    let call = c.args.call in
    let plain = c.delivered-code.new.answer in
    let got = left_answered it.machine it.format call (IsDelivered it call it.rounding) c.args.answer.now plain
    c.delivered-code.result c.delivered-code.ensures c.if-code-ne-ANSWERED.false in
    left_by (machine_fault it.machine it.format call) (IsInstructionAnswer it call c.args.denormal) c.args.answer.now _
    got.0
    (record {
      plain = plain;
      is_plain = got.1;
      up = c.is_rounded_up-up.result;
      is_up = c.is_rounded_up-up.ensures;
      answer_is = c.noted.ensures;
    })
