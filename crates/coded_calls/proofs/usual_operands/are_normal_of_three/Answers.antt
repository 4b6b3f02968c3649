use Rattle.rustc_apfloat.specs.FlaggedTypes.{constants_of}
use Rattle.coded_calls.proofs.UsualAnswers.{divisors_are_usual_of_three}
use Rattle.coded_calls.proofs.usual_operands.are_normal_of_three.Goals as goal

pub returns-then-is_normal-2 : goal.returns-then-is_normal-2
returns-then-is_normal-2 g c = λ third.
    divisors_are_usual_of_three (constants_of g.S.Flagged) c.args.x c.args.y c.args.z
    (c.is_normal.ensures c.if-is_normal.true) (c.is_normal-then-is_normal.ensures c.if-is_normal-2.true)
    (c.is_normal-then-is_normal-2.ensures third)
