use Rattle.std.proofs.Common.{sym, ap, ◌∙◌, Some}
use Rattle.formats_at_run_time.specs.declared.FlaggedKind.TheVariants.{OfFormat}
use Rattle.apfloat_c.specs.Readings.{known_spelling}
use Rattle.apfloat_c.proofs.FlaggedReadings.{flagged_exponents, read_in_kind}
use Rattle.apfloat_c.proofs.readings.apfloat_read_decimal.Goals as goal

pub returns-in-OfFormat : goal.returns-in-OfFormat
returns-in-OfFormat c =
    read_in_kind _ _ (OfFormat c.in-OfFormat.format) c.in-Some-mode_coded.round (known_spelling c.args.text.now)
    c.known_spelling-text.result.now c.args.answer.now c.fill.new.place c.fill.result
    (sym c.coded.ensures ∙ c.in-Some.is ∙ ap Some c.in-OfFormat.is)
    (sym c.mode_coded.ensures ∙ c.in-Some-mode_coded.is) (sym c.known_spelling-text.ensures)
    (c.fill.ensures (flagged_exponents c.in-OfFormat.format))
