use Rattle.std.proofs.{Common.arith, lemmas.Int.ints}
use Rattle.fast_bits.proofs.fused.addend_exponent.Goals as goal

pub returns : goal.returns
returns g c = omega (arith, ints, g.S.Flagged.lawful.parameters, c.MIN_EXP.ensures, c.requires)
