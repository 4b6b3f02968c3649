use Rattle.std.proofs.{Common.arith, lemmas.Int.ints}
use Rattle.fast_bits.proofs.roots.halved_place.Goals as goal

pub returns-clause-balance : goal.returns-clause-balance
returns-clause-balance g c =
    omega (arith, ints, g.S.Flagged.lawful.parameters, c.MIN_EXP.ensures, c.MIN_EXP-2.ensures, c.requires)
