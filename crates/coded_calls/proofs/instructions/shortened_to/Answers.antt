use Rattle.std.proofs.Common.{ap, ◌∙◌}
use Rattle.rustc_apfloat.specs.{Flags.bits_of, FlaggedTypes.format_of, Formats.x87_constants}
use Rattle.coded_calls.specs.FewerDigits.{exact_of}
use Rattle.coded_calls.proofs.FewerDigits.{shortened_none, shortened_some}
use Rattle.coded_calls.proofs.instructions.shortened_to.Goals as goal

pub returns-in-None : goal.returns-in-None
returns-in-None g c = λ short.
    let f = format_of g.T.Flagged in
    shortened_none f c.args.rounding c.args.control (exact_of x87_constants f c.args.call) c.in-None.ensures

pub returns-in-Some : goal.returns-in-Some
returns-in-Some g c = λ short.
    let f = format_of g.T.Flagged in
    shortened_some f c.args.rounding c.args.control (exact_of x87_constants f c.args.call) c.in-Some.plain
    c.finished-narrow.result c.and.result c.written.result c.in-Some.ensures c.finished-narrow.ensures
    (c.and.ensures.value ∙ c.widened-wide.ensures short) (ap bits_of c.and.ensures.status) c.written.ensures
