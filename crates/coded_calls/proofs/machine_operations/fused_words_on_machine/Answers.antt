use Rattle.formats_at_run_time.specs.{FlaggedKinds.flagged_kind_coded, Modes.mode_coded}
use Rattle.coded_calls.specs.{declared.machine_call.MachineOperation.TheVariants.FusedSum, MachineCalls.machine_coded}
use Rattle.coded_calls.proofs.KnownRequests.{operation_filled}
use Rattle.coded_calls.proofs.machine_operations.fused_words_on_machine.Goals as goal

pub returns-in-Some-fill_short_coded : goal.returns-in-Some-fill_short_coded
returns-in-Some-fill_short_coded c =
    let known = c.in-Some.known in
    operation_filled (flagged_kind_coded c.args.format) (mode_coded c.args.mode) known.round
    (FusedSum c.args.x c.args.y c.args.z) (machine_coded c.args.machine) known.machine c.args.answer.now
    c.fill_short_coded.new.place c.in-Some-fill_short_coded.code c.in-Some.ensures.mode c.in-Some.ensures.machine
    c.in-Some-fill_short_coded.ensures
