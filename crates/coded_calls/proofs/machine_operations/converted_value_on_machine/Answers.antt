use Rattle.std.proofs.Common.{ℕ, Some, subst}
use Rattle.formats_at_run_time.specs.{FlaggedKinds.flagged_kind_coded, Modes.mode_coded}
use Rattle.coded_calls.specs.{Answers.whole, MachineCalls.IsFilledIn, MachineCalls.IsMachineConversionLeft}
use Rattle.coded_calls.specs.MachineCalls.{kind_on, kind_without_rule, machine_coded, machine_format_coded}
use Rattle.coded_calls.proofs.KnownRequests.{conversion_filled}
use Rattle.coded_calls.proofs.machine_operations.converted_value_on_machine.Goals as goal

pub returns-in-Some-Some : goal.returns-in-Some-Some
returns-in-Some-Some c =
    let known = c.in-Some.known in
    let left = c.in-Some-Some.field-0 in
    let to = machine_format_coded c.args.to in
    let filled = subst
    (λ (x : ℕ). IsFilledIn kind_without_rule
    (λ kind old new given. IsFilledIn (kind_on known.machine)
    (IsMachineConversionLeft kind known.machine known.round x) to old new given)
    (machine_format_coded c.args.format) c.args.answer.now c.fill_coded_without_rule.new.place (Some left))
    c.number.ensures c.in-Some-Some.ensures in
    conversion_filled (flagged_kind_coded c.args.format) (flagged_kind_coded c.args.to) (mode_coded c.args.mode)
    known.round (whole c.args.x) (machine_coded c.args.machine) known.machine c.args.answer.now
    c.fill_coded_without_rule.new.place left c.in-Some-Some.code c.in-Some.ensures.mode c.in-Some.ensures.machine
    c.in-Some-Some.field-0-is filled
