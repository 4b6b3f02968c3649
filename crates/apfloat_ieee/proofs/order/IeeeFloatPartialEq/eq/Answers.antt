use Rattle.std.proofs.Common.{refl}
use Rattle.apfloat_ieee.proofs.order.IeeeFloatPartialEq.eq.Goals as goal

pub returns-in-Some : goal.returns-in-Some
returns-in-Some g c =
    let e = rw c.in-Some.is at c.compare.ensures in
    rw (← e) cc

pub returns-in-None : goal.returns-in-None
returns-in-None g c =
    let e = rw c.in-None.is at c.compare.ensures in
    rw (← e) refl
