use Rattle.std.proofs.Common.{sym, ap, ◌∙◌, Some}
use Rattle.apfloat_c.proofs.DecimalReadings.{exponents_within, parsed_in_format}
use Rattle.apfloat_c.proofs.decimals.apfloat_parse_decimal.Goals as goal

pub returns-in-OfFormat : goal.returns-in-OfFormat
returns-in-OfFormat c =
    parsed_in_format _ _ c.in-Some.kind c.in-Some-mode_coded.round c.in-OfFormat.format c.args.text.now
    c.args.answer.now c.fill.new.place c.fill.result (sym c.coded.ensures ∙ c.in-Some.is)
    (sym c.mode_coded.ensures ∙ c.in-Some-mode_coded.is)
    (sym c.decimal_kind.ensures ∙ c.in-Some-decimal_kind.is ∙ ap Some c.in-OfFormat.is)
    (c.fill.ensures (exponents_within c.in-OfFormat.format))
