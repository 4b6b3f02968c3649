use Rattle.std.proofs.{Common.w32, lemmas.Int.to_z-of_z}
use Rattle.apfloat_ieee.proofs.impls.IeeeFloatFloat.scalbn_r.Goals as goal

pub returns : goal.returns
returns g c =
    let e = to_z-of_z w32 c.args.exp c.ranges.exp in
    let d = rw (c.shape_of.ensures, e) at c.scaled.ensures.scaled in
    rw (c.unpacked.ensures.datum, c.packed.ensures) (assumption d)
