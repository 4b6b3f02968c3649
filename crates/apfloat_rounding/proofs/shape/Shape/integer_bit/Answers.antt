use Rattle.apfloat_rounding.proofs.shape.Shape.integer_bit.Goals as goal

pub returns : goal.returns
returns c = c.power_of_two.ensures
