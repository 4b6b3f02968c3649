use Rattle.std.proofs.Common.{refl, sym}
use Rattle.coded_calls.proofs.fewer_digits.root_rounded_to.Goals as goal

pub returns-then-is_root_of : goal.returns-then-is_root_of
returns-then-is_root_of g c =
    rw (sym c.is_root_of.ensures, c.if-is_root_of.true, sym c.value-radicand.ensures) c.sqrt_to.ensures

pub returns-else-is_root_of : goal.returns-else-is_root_of
returns-else-is_root_of g c = rw (sym c.is_root_of.ensures, c.if-is_root_of.false) refl
