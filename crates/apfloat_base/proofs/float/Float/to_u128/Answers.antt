use Rattle.apfloat_base.proofs.float.Float.to_u128.Goals as goal

pub returns-clause-answer : goal.returns-clause-answer
returns-clause-answer g c = (_, c.to_u128_r.ensures.answer)

pub returns-clause-fits : goal.returns-clause-fits
returns-clause-fits g c = c.to_u128_r.ensures.fits
