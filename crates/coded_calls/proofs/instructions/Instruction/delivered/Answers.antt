use Rattle.apfloat_model.proofs.general.Choices.{match_true}
use Rattle.coded_calls.specs.{Instructions.IsDelivered, Instructions.IsMasked, MachineCalls.machine_fault}
use Rattle.coded_calls.proofs.MadeInstructions.{left_answered, left_by}
use Rattle.coded_calls.proofs.instructions.Instruction.delivered.Goals as goal

pub returns-then-self : goal.returns-then-self
returns-then-self c =
    let it = c.args.self in
    let call = c.args.call in
    let masked = c.masked-code.new.answer in
    let got = left_answered it.machine it.format call (IsMasked it call c.args.rounding) c.args.answer.now masked
    c.masked-code.result c.masked-code.ensures c.if-code-ne-ANSWERED.false in
    left_by (machine_fault it.machine it.format call) (IsDelivered it call c.args.rounding) c.args.answer.now
    c.unmasked.result got.0
    (match_true it.control.unmasked _ _ c.if-self.true
    (record { masked = masked; is_masked = got.1; is_wrapped = c.unmasked.ensures }))
