use Rattle.std.proofs.{Common.w32, lemmas.Int.to_z-of_z}
use Rattle.apfloat_ieee.proofs.ieee_float.deliver.Goals as goal

pub returns : goal.returns
returns g c = λ amount parts u h.
    let e = to_z-of_z w32 c.args.exponent c.ranges.exponent in
    let d = rw (c.shape_of.ensures, e) at c.deliver.ensures.delivered in
    rw (c.answered.ensures.value, c.answered.ensures.status) (d amount parts u h)
