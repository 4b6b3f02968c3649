use Rattle.apfloat_ieee.proofs.products.quotient.Goals as goal

pub returns : goal.returns
returns g c =
    let d = rw c.shape_of.ensures at c.divide.ensures.delivered in
    rw (c.answered.ensures.value, c.answered.ensures.status, c.unpacked.ensures.datum, c.unpacked-2.ensures.datum) d
