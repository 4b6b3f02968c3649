use Rattle.formats_at_run_time.specs.{FlaggedKinds.flagged_kind_coded, Modes.mode_coded}
use Rattle.coded_calls.specs.MachineCalls.{machine_coded}
use Rattle.coded_calls.proofs.KnownRequests.{conversion_filled}
use Rattle.coded_calls.proofs.machine_operations.converted_word_on_machine.Goals as goal

pub returns-in-Some-Some : goal.returns-in-Some-Some
returns-in-Some-Some c =
    let known = c.in-Some.known in
    conversion_filled (flagged_kind_coded c.args.format) (flagged_kind_coded c.args.to) (mode_coded c.args.mode)
    known.round c.args.x (machine_coded c.args.machine) known.machine c.args.answer.now
    c.fill_coded_without_rule.new.place c.in-Some-Some.field-0 c.in-Some-Some.code c.in-Some.ensures.mode
    c.in-Some.ensures.machine c.in-Some-Some.field-0-is c.in-Some-Some.ensures
