use Rattle.fast_bits.proofs.lanes_lemmas.PowersOfTwo.{of_digits}
use Rattle.fast_bits.proofs.lanes.halves.power_of_two.Goals as goal

pub returns : goal.returns
returns c = record { is = rw (c.max.ensures, c.max-2.ensures, c.max-3.ensures) (of_digits c.args.exponent c.requires) }
