use Rattle.std.proofs.{Common.arith, lemmas.Int.ints}
use Rattle.fast_bits.proofs.fused.upper_place.Goals as goal

pub overflow_sub-result-2 : goal.overflow_sub-result-2
overflow_sub-result-2 g c = omega (arith, ints, g.S.Flagged.lawful.parameters, c.MIN_EXP.ensures, c.requires)

pub returns : goal.returns
returns g c = omega (arith, ints, g.S.Flagged.lawful.parameters, c.MIN_EXP.ensures, c.requires)
