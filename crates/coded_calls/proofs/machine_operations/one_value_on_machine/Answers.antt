use Rattle.std.proofs.Common.{ℕ, Some, subst}
use Rattle.formats_at_run_time.specs.{FlaggedKinds.flagged_kind_coded, Modes.mode_coded}
use Rattle.coded_calls.specs.{Answers.whole, MachineCalls.IsFilledIn}
use Rattle.coded_calls.specs.MachineCalls.{IsMachineLeftIn, kind_on, machine_coded, machine_format_coded, of_one}
use Rattle.coded_calls.proofs.KnownRequests.{operation_filled}
use Rattle.coded_calls.proofs.machine_operations.one_value_on_machine.Goals as goal

pub returns-in-Some-fill_wide_coded : goal.returns-in-Some-fill_wide_coded
returns-in-Some-fill_wide_coded c =
    let known = c.in-Some.known in
    let code = c.in-Some-fill_wide_coded.code in
    let operation = c.args.operation in
    let x = whole c.args.x in
    let filled = subst
    (λ (bits : ℕ). IsFilledIn (kind_on known.machine)
    (λ kind old new left.
    IsMachineLeftIn kind known.machine known.round (of_one operation c.args.to bits) old new left)
    (machine_format_coded c.args.format) c.args.answer.now c.fill_wide_coded.new.place (Some code))
    c.number.ensures c.in-Some-fill_wide_coded.ensures in
    operation_filled (flagged_kind_coded c.args.format) (mode_coded c.args.mode) known.round
    (of_one operation c.args.to x) (machine_coded c.args.machine) known.machine c.args.answer.now
    c.fill_wide_coded.new.place code c.in-Some.ensures.mode c.in-Some.ensures.machine filled
