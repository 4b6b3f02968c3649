use Rattle.rustc_apfloat.specs.FlaggedTypes.{constants_of}
use Rattle.coded_calls.proofs.UsualAnswers.{divisor_is_number, usual_integral}
use Rattle.coded_calls.proofs.machine_operations.integral_exact_here.Goals as goal

pub returns-then-is_normal : goal.returns-then-is_normal
returns-then-is_normal g c = λ infinite.
    let k = constants_of g.S.Flagged in
    usual_integral k c.args.machine c.args.round c.args.x c.args.answer.now c.plain_integral_exact.new.answer
    (divisor_is_number k c.args.x (c.is_normal.ensures c.if-is_normal.true)) c.plain_integral_exact.ensures
