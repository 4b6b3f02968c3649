use Rattle.apfloat_ieee.proofs.sums.IeeeFloatAdd.add.Goals as goal

pub returns : goal.returns
returns g c = c.sum.ensures.sum
