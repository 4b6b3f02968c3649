use Rattle.apfloat_base.proofs.convert.FloatConvert.convert.Goals as goal

pub returns : goal.returns
returns g c = c.convert_r.ensures
