use Rattle.std.proofs.Common.{sym}
use Rattle.formats_at_run_time.specs.{FlaggedKinds.flagged_kind_coded, Modes.mode_coded}
use Rattle.coded_calls.proofs.RulesOfSources.{conversion_returned}
use Rattle.coded_calls.proofs.by_code.reply_converted.Goals as goal

pub returns-in-Some-OfFormat : goal.returns-in-Some-OfFormat
returns-in-Some-OfFormat c =
    rw (sym c.in-Some-OfFormat.ensures, c.in-Some-OfFormat.field-0-is)
    (conversion_returned c.in-Some-OfFormat.format c.built_in.result (mode_coded c.args.mode) c.args.operation.x
    (flagged_kind_coded c.args.operation.to) c.args.answer.now c.fill.new.place c.fill.result c.built_in.ensures
    c.fill.ensures)
