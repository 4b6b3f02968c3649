use Rattle.std.proofs.Common.{refl, inl, inr, ap, Option}
use Rattle.std.specs.Prelude.{is_some}
use Rattle.rustc_apfloat.specs.FlaggedTypes.{constants_of, format_of}
use Rattle.apfloat_model.specs.{declared.parse_error.Fault.Fault, rounding.Flags.bits_of}
use Rattle.coded_calls.proofs.{MeaningfulTexts.read_ascii, NumberAnswers.value_of_encoded}
use Rattle.apfloat_c.proofs.decimals.read_in_format.Goals as goal

pub returns-in-Ok : goal.returns-in-Ok
returns-in-Ok g c = λ has.
    let answer = c.in-Ok.ensures in
    let ascii = read_ascii (format_of g.S.Flagged) c.args.round c.args.text.now answer.value
    (bits_of c.in-Ok.read.status) answer.says in
    let value = value_of_encoded (constants_of g.S.Flagged) _ c.in-Ok.read c.with_bits.result answer
    c.with_bits.ensures.bits c.with_bits.ensures.status c.with_bits.ensures.number in
    inl (refl, (ascii, value))

pub returns-in-Err : goal.returns-in-Err
returns-in-Err g c = λ has.
    inr (refl, refl, λ ascii. ap (λ (fault : Option Fault). is_some fault) c.in-Err.ensures.is_first)
