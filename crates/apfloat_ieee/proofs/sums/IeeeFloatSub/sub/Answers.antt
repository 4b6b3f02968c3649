use Rattle.apfloat_ieee.proofs.sums.IeeeFloatSub.sub.Goals as goal

pub returns : goal.returns
returns g c = c.difference.ensures.difference
