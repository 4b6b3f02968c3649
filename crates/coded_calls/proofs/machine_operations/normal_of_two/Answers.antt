use Rattle.rustc_apfloat.specs.FlaggedTypes.{constants_of}
use Rattle.coded_calls.proofs.UsualAnswers.{usual_of_two}
use Rattle.coded_calls.proofs.machine_operations.normal_of_two.Goals as goal

pub returns-then-are_normal : goal.returns-then-are_normal
returns-then-are_normal g c = λ infinite.
    let arithmetic = g.O.InLine.arithmetic c.args.operation in
    usual_of_two (constants_of g.S.Flagged) c.args.machine arithmetic c.args.round c.args.x c.args.y c.args.answer.now
    c.plain_here.new.answer (c.are_normal.ensures c.if-are_normal.true arithmetic) c.plain_here.ensures
