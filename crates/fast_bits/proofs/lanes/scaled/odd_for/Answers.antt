use Rattle.fast_bits.proofs.lanes_lemmas.LowBits.{or_bit}
use Rattle.fast_bits.proofs.lanes.scaled.odd_for.Goals as goal

pub returns : goal.returns
returns c = rw c.one_if.ensures (or_bit c.args.quotient c.args.rest)
