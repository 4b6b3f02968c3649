use Rattle.apfloat_ieee.proofs.remainders.truncated.Goals as goal

pub returns : goal.returns
returns g c =
    let d = rw c.shape_of.ensures at c.truncated_remainder.ensures.delivered in
    rw (c.answered.ensures.value, c.answered.ensures.status, c.unpacked.ensures.datum, c.unpacked-2.ensures.datum) d
