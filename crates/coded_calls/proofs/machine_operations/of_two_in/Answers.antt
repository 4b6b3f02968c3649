use Rattle.std.proofs.Common.{sym, ◌∙◌}
use Rattle.rustc_apfloat.specs.FlaggedTypes.{constants_of}
use Rattle.coded_calls.proofs.UsualAnswers.{usual_of_two}
use Rattle.coded_calls.proofs.machine_operations.of_two_in.Goals as goal

pub returns-then-are_usual : goal.returns-then-are_usual
returns-then-are_usual g c = λ infinite.
    usual_of_two (constants_of g.S.Flagged) c.args.machine c.args.arithmetic c.args.round c.args.x c.args.y
    c.args.answer.now c.plain_of_two.new.answer (sym c.are_usual.ensures ∙ c.if-are_usual.true) c.plain_of_two.ensures
