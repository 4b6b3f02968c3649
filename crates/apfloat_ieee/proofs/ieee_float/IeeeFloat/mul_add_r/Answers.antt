use Rattle.apfloat_ieee.proofs.ieee_float.IeeeFloat.mul_add_r.Goals as goal

pub returns : goal.returns
returns g c =
    let d = rw c.shape_of.ensures at c.multiply_add.ensures.delivered in
    rw (
      c.answered.ensures.value,
      c.answered.ensures.status,
      c.unpacked.ensures.datum,
      c.unpacked-2.ensures.datum,
      c.unpacked-3.ensures.datum,
    ) d
