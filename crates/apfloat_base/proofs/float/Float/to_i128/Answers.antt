use Rattle.apfloat_base.proofs.float.Float.to_i128.Goals as goal

pub returns : goal.returns
returns g c = (_, c.to_i128_r.ensures)
