use Rattle.std.proofs.Common.{ap}
use Rattle.apfloat_base.proofs.float.Float.is_smallest_normalized.Goals as goal

pub returns : goal.returns
returns g c =
    let same = g.Self.Float.meaning.same c.args.self in
    rw c.bitwise_eq.ensures (ap same (rw (← c.smallest_normalized.ensures) assumption))
