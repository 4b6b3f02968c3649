-- A call that converts one value into a format of P3109 or out of it has one answer.
use Rattle.std.proofs.Common.{◌%◌, ◌^◌, Ok, Err, sym, ap, ◌∙◌}
use Rattle.rustc_apfloat.specs.Lawful.{format_with}
use Rattle.apfloat_model.proofs.Once.{conversion_once}
use Rattle.formats_at_run_time.specs.{BuiltIns.constants_in, FlaggedKinds.flagged_constants, ValueKinds.value_of}
use Rattle.formats_at_run_time.proofs.FormatLaws.{format_law}
use Rattle.p3109_formats.specs.{ModeLaws.IsProjectedByOnce, Projections.projected_datum, Projections.projected_format}
use Rattle.coded_calls.specs.declared.p3109.P3109Call.{P3109Call, TheVariants.Into, TheVariants.OutOf}
use Rattle.coded_calls.specs.{Answers.one_if, P3109.IsP3109Answer, OneReply.IsP3109ReplyOnce}
use Rattle.coded_calls.proofs.ExportsOnce.{OnceAnswer, converted_once, unchanged}

answer_once : IsProjectedByOnce → (call : P3109Call) → OnceAnswer (IsP3109Answer call)
answer_once once (Into source rule target bits) a b x y =
    let c = constants_in source in
    let same = once target (format_with c) rule (value_of c bits) x.code y.code x.status y.status x.loses y.loses
    x.lawful x.below y.below x.is_into y.is_into in
    record {
      bits = x.bits_are ∙ same.0 ∙ sym y.bits_are;
      status = x.status_is ∙ same.1 ∙ sym y.status_is;
      number = x.number_is ∙ ap one_if same.2 ∙ sym y.number_is;
    }
answer_once once (OutOf source mode target code) a b x y =
    let d = flagged_constants target in
    let given = projected_datum source (code % 2 ^ source.bits) in
    converted_once d (format_law target) mode _
    (conversion_once (projected_format source) (format_with d) mode given) a b x y

pub p3109_reply_once : IsProjectedByOnce → IsP3109ReplyOnce
p3109_reply_once once (Ok call) old a b code other x y = (x.0 ∙ sym y.0, answer_once once call a b x.1 y.1)
p3109_reply_once once (Err error) old a b code other x y = (x.0 ∙ sym y.0, unchanged old a b x.1 y.1)
