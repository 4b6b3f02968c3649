use Rattle.std.proofs.{Common.arith, lemmas.Int.ints}
use Rattle.fast_bits.proofs.products.product_place.Goals as goal

pub returns : goal.returns
returns g c =
    let are = g.S.Flagged.lawful.parameters in
    omega (arith, ints, are, c.MIN_EXP.ensures, c.requires.left, c.requires.right, c.requires.moved)
