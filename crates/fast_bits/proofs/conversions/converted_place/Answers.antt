use Rattle.std.proofs.{Common.arith, lemmas.Int.ints}
use Rattle.fast_bits.proofs.conversions.converted_place.Goals as goal

pub returns : goal.returns
returns g c =
    let to = g.T.Flagged.lawful.parameters in
    omega (arith, ints, g.S.Flagged.lawful.parameters, to, c.MIN_EXP.ensures, c.MIN_EXP-2.ensures, c.requires)
