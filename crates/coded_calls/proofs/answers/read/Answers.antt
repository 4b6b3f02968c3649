use Rattle.std.proofs.Common.{Ok}
use Rattle.coded_calls.proofs.WrittenAnswers.{answered_if, refused_unless, text_with_fault, text_without_fault}
use Rattle.coded_calls.specs.KnownCalls.{is_text, refused_text}
use Rattle.coded_calls.proofs.answers.read.Goals as goal

pub returns-in-Ok : goal.returns-in-Ok
returns-in-Ok g c =
    let bytes = c.args.bytes.now in
    let none = g.met.F.ValueType.reads_texts bytes c.args.round (Ok c.in-Ok.read) c.in-Ok.ensures in
    answered_if (is_text bytes) refused_text _ _ _ (text_without_fault bytes none)
    (record { given = c.in-Ok.read; holds = c.in-Ok.ensures; is_written = c.written.ensures })

pub returns-in-Err : goal.returns-in-Err
returns-in-Err g c =
    let bytes = c.args.bytes.now in
    let refusal = g.met.F.ValueType.reads_texts bytes c.args.round _ c.in-Err.ensures in
    refused_unless (is_text bytes) refused_text _ _ (text_with_fault bytes refusal.fault refusal.is_first)
