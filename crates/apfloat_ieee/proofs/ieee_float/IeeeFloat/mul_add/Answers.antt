use Rattle.apfloat_ieee.proofs.ieee_float.IeeeFloat.mul_add.Goals as goal

pub returns : goal.returns
returns g c = c.mul_add_r.ensures
