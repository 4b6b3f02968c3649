use Rattle.std.proofs.Common.{ℕ, Option, ap, ◌∙◌, subst}
use Rattle.rustc_apfloat.specs.declared.Round.{Round}
use Rattle.coded_calls.specs.{Instructions.IsWithAllDigits, Instructions.constants_for, Instructions.mode_by}
use Rattle.coded_calls.specs.MachineCalls.{IsMachineCallAnswer, machine_fault}
use Rattle.coded_calls.proofs.MadeInstructions.{left_answered, left_by}
use Rattle.coded_calls.proofs.instructions.Instruction.with_all_digits.Goals as goal

pub returns : goal.returns
returns c =
    let it = c.args.self in
    let call = c.args.call in
    let given = c.made-code.new.answer in
    let got = left_answered it.machine it.format call
    (IsMachineCallAnswer it.machine it.format c.mode-round.result call) c.args.answer.now given c.made-code.result
    c.made-code.ensures c.if-code-ne-ANSWERED.false in
    left_by (machine_fault it.machine it.format call) (IsWithAllDigits it call c.args.rounding) c.args.answer.now
    c.finish.new.answer got.0
    (record {
      given = given;
      is_given = subst (λ (mode : Round). IsMachineCallAnswer it.machine it.format mode call given)
          (c.mode-round.ensures
          ∙ ap (λ (x : Option ℕ). mode_by (constants_for it.format) c.args.rounding x) c.whole_operand.ensures)
          got.1;
      is_finished = c.finish.ensures;
    })
