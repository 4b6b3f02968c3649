use Rattle.std.proofs.Common.{sym, ◌∙◌}
use Rattle.rustc_apfloat.specs.FlaggedTypes.{constants_of}
use Rattle.coded_calls.proofs.NumberAnswers.{left_sum}
use Rattle.coded_calls.proofs.machine_operations.sum_of_words.Goals as goal

pub returns-in-Some : goal.returns-in-Some
returns-in-Some g c = λ infinite.
    left_sum (constants_of g.S.Flagged) c.args.machine c.args.round c.args.x c.args.y c.in-Some.sum c.args.answer.now
    c.with_bits.result (sym c.both_fit.ensures ∙ c.if-both_fit.true) c.in-Some.ensures c.with_bits.ensures.bits
    c.with_bits.ensures.status c.with_bits.ensures.number
