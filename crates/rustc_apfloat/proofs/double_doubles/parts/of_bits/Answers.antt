use Rattle.apfloat_pair_theory.proofs.pairs.PairBits.{pair_of_halves}
use Rattle.rustc_apfloat.proofs.double_doubles.parts.of_bits.Goals as goal

pub returns : goal.returns
returns c = pair_of_halves c.args.bits _ c.from_bits.ensures.read c.from_bits-2.ensures.read
