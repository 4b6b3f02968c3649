use Rattle.small_formats.proofs.arithmetic.made_odd.Goals as goal

pub returns : goal.returns
returns g c = rw c.is_negative.ensures at c.to_odd.ensures.made
