use Rattle.std.proofs.Common.{refl, sym}
use Rattle.coded_calls.proofs.machine_operations.range_in.Goals as goal

pub returns-then-not-both_fit : goal.returns-then-not-both_fit
returns-then-not-both_fit g c = λ infinite. rw (sym c.both_fit.ensures, c.if-not-both_fit.true) (refl, refl)

pub returns-then-not-is_x86 : goal.returns-then-not-is_x86
returns-then-not-is_x86 g c = λ infinite.
    rw (sym c.both_fit.ensures, c.if-not-both_fit.false, sym c.is_x86.ensures, c.if-not-is_x86.true) (refl, refl)

pub returns : goal.returns
returns g c = λ infinite.
    rw (sym c.both_fit.ensures, c.if-not-both_fit.false, sym c.is_x86.ensures, c.if-not-is_x86.false)
    (refl, c.ranged.ensures)
