use Rattle.std.proofs.Common.{sym, ◌∙◌}
use Rattle.rustc_apfloat.specs.FlaggedTypes.{constants_of}
use Rattle.coded_calls.proofs.UsualAnswers.{usual_integral}
use Rattle.coded_calls.proofs.machine_operations.usual_integral_exact.Goals as goal

pub returns-then-is_number : goal.returns-then-is_number
returns-then-is_number g c = λ infinite.
    usual_integral (constants_of g.S.Flagged) c.args.machine c.args.round c.args.x c.args.answer.now
    c.plain_integral_exact.new.answer (sym c.is_number.ensures ∙ c.if-is_number.true)
    c.plain_integral_exact.ensures
