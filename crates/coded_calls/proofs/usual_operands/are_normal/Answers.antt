use Rattle.rustc_apfloat.specs.FlaggedTypes.{constants_of}
use Rattle.coded_calls.proofs.UsualAnswers.{divisors_are_usual}
use Rattle.coded_calls.proofs.usual_operands.are_normal.Goals as goal

pub returns-then-is_normal : goal.returns-then-is_normal
returns-then-is_normal g c = λ second arithmetic.
    divisors_are_usual (constants_of g.S.Flagged) arithmetic c.args.x c.args.y
    (c.is_normal.ensures c.if-is_normal.true) (c.is_normal-then-is_normal.ensures second)
