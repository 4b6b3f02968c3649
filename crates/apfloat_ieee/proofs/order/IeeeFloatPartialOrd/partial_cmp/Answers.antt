use Rattle.apfloat_ieee.proofs.order.IeeeFloatPartialOrd.partial_cmp.Goals as goal

pub returns : goal.returns
returns g c = c.compare.ensures
