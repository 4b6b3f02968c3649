use Rattle.std.proofs.Common.{sym, ◌∙◌}
use Rattle.rustc_apfloat.specs.FlaggedTypes.{constants_of}
use Rattle.coded_calls.proofs.UsualAnswers.{usual_of_three}
use Rattle.coded_calls.proofs.machine_operations.normal_fused_sum.Goals as goal

pub returns-then-are_normal_of_three : goal.returns-then-are_normal_of_three
returns-then-are_normal_of_three g c = λ infinite.
    usual_of_three (constants_of g.S.Flagged) c.args.machine c.args.round c.args.x c.args.y c.args.z
    c.args.answer.now c.fused_sum_here.new.answer (sym c.has_fused.ensures ∙ c.if-has_fused.true)
    (c.are_normal_of_three.ensures c.if-are_normal_of_three.true) c.fused_sum_here.ensures
