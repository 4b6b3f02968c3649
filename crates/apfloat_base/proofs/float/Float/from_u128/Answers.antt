use Rattle.apfloat_base.proofs.float.Float.from_u128.Goals as goal

pub returns : goal.returns
returns g c = c.from_u128_r.ensures
