use Rattle.apfloat_ieee.proofs.remainders.IeeeFloatRem.rem.Goals as goal

pub returns : goal.returns
returns g c = c.truncated.ensures
