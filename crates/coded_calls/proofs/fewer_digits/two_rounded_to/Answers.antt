use Rattle.std.proofs.Common.{refl, sym}
use Rattle.coded_calls.proofs.fewer_digits.two_rounded_to.Goals as goal

pub returns-then-are_usual : goal.returns-then-are_usual
returns-then-are_usual g c =
    rw (sym c.are_usual.ensures, c.if-are_usual.true, sym c.value-first.ensures, sym c.value-second.ensures)
    c.of_two.ensures

pub returns-else-are_usual : goal.returns-else-are_usual
returns-else-are_usual g c = rw (sym c.are_usual.ensures, c.if-are_usual.false) refl
