use Rattle.std.proofs.Common.{refl, sym}
use Rattle.coded_calls.proofs.fewer_digits.fused_rounded_to.Goals as goal

pub returns-then-are_usual_of_three : goal.returns-then-are_usual_of_three
returns-then-are_usual_of_three g c =
    rw (
      sym c.are_usual_of_three.ensures,
      c.if-are_usual_of_three.true,
      sym c.value-first.ensures,
      sym c.value-second.ensures,
      sym c.value-third.ensures,
    )
    c.mul_add_to.ensures

pub returns-else-are_usual_of_three : goal.returns-else-are_usual_of_three
returns-else-are_usual_of_three g c = rw (sym c.are_usual_of_three.ensures, c.if-are_usual_of_three.false) refl
