use Rattle.apfloat_base.proofs.float.Float.frexp.Goals as goal

pub returns : goal.returns
returns g c = c.frexp_r.ensures
