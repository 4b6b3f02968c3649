use Rattle.std.proofs.Common.{ℕ, Result, subst}
use Rattle.formats_at_run_time.specs.{FlaggedKinds.flagged_kind_coded, Modes.mode_coded}
use Rattle.coded_calls.specs.{Answers.whole, declared.machine_call.MachineCall.MachineCall}
use Rattle.coded_calls.specs.MachineCalls.{IsMachineReply, known_machine_call, machine_coded}
use Rattle.coded_calls.proofs.machine_operations.any_of_two.Goals as goal

pub returns : goal.returns
returns c =
    subst
    (λ (call : Result MachineCall ℕ). IsMachineReply (known_machine_call (flagged_kind_coded c.args.format)
    (mode_coded c.args.mode) call (machine_coded c.args.machine)) c.args.answer.now c.any_on_machine.new.answer
    c.any_on_machine.result)
    (c.two_code-code.ensures 0 (whole c.args.x) (whole c.args.y) 0) c.any_on_machine.ensures
