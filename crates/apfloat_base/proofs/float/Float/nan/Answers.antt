use Rattle.apfloat_base.proofs.float.Float.nan.Goals as goal

pub returns : goal.returns
returns g c = c.qnan.ensures
