use Rattle.std.proofs.{Common.w32, lemmas.Int.to_z-of_z}
use Rattle.apfloat_ieee.proofs.ieee_float.IeeeFloat.scale_b.Goals as goal

pub returns : goal.returns
returns g c =
    let e = to_z-of_z w32 c.args.places c.ranges.places in
    let d = rw (c.shape_of.ensures, e) at c.scaled_with_status.ensures.scaled in
    rw (c.unpacked.ensures.datum, c.answered.ensures.value, c.answered.ensures.status) d
