use Rattle.apfloat_ieee.proofs.products.IeeeFloatDiv.div.Goals as goal

pub returns : goal.returns
returns g c = c.quotient.ensures
