use Rattle.std.proofs.{Common.arith, lemmas.Int.ints}
use Rattle.fast_bits.proofs.quotients.quotient_place.Goals as goal

pub overflow_sub-result-4 : goal.overflow_sub-result-4
overflow_sub-result-4 g c = omega (arith, ints, g.S.Flagged.lawful.parameters, c.MIN_EXP.ensures, c.requires)

pub returns : goal.returns
returns g c = omega (arith, ints, g.S.Flagged.lawful.parameters, c.MIN_EXP.ensures, c.requires)
