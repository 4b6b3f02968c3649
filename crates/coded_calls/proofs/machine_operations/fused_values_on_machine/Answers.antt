use Rattle.std.proofs.Common.{ℕ, Some, subst}
use Rattle.formats_at_run_time.specs.{FlaggedKinds.flagged_kind_coded, Modes.mode_coded}
use Rattle.coded_calls.specs.{Answers.whole, declared.machine_call.MachineOperation.TheVariants.FusedSum}
use Rattle.coded_calls.specs.MachineCalls.{IsFilledIn, IsMachineLeftIn, kind_on, machine_coded, machine_format_coded}
use Rattle.coded_calls.proofs.KnownRequests.{operation_filled}
use Rattle.coded_calls.proofs.machine_operations.fused_values_on_machine.Goals as goal

pub returns-in-Some-fill_wide_coded : goal.returns-in-Some-fill_wide_coded
returns-in-Some-fill_wide_coded c =
    let known = c.in-Some.known in
    let code = c.in-Some-fill_wide_coded.code in
    let x = whole c.args.x in
    let y = whole c.args.y in
    let z = whole c.args.z in
    let Filled = λ (first second third : ℕ).
    IsFilledIn (kind_on known.machine)
    (λ kind old new left. IsMachineLeftIn kind known.machine known.round (FusedSum first second third) old new left)
    (machine_format_coded c.args.format) c.args.answer.now c.fill_wide_coded.new.place (Some code) in
    let filled = subst (λ (third : ℕ). Filled x y third) c.number-in-Some-2.ensures
    (subst (λ (second : ℕ). Filled x second c.number-in-Some-2.result) c.number-in-Some.ensures
    (subst (λ (first : ℕ). Filled first c.number-in-Some.result c.number-in-Some-2.result) c.number.ensures
    c.in-Some-fill_wide_coded.ensures)) in
    operation_filled (flagged_kind_coded c.args.format) (mode_coded c.args.mode) known.round (FusedSum x y z)
    (machine_coded c.args.machine) known.machine c.args.answer.now c.fill_wide_coded.new.place code
    c.in-Some.ensures.mode c.in-Some.ensures.machine filled
