use Rattle.std.proofs.{Common.arith, lemmas.Int.ints}
use Rattle.fast_bits.proofs.integral.place_of_one.Goals as goal

pub returns : goal.returns
returns g c = omega (arith, ints, g.S.Flagged.lawful.parameters, c.MIN_EXP.ensures)
