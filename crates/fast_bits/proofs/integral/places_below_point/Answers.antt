use Rattle.std.proofs.{Common.arith, lemmas.Int.ints}
use Rattle.fast_bits.proofs.integral.places_below_point.Goals as goal

pub returns-then-places-PRECISION : goal.returns-then-places-PRECISION
returns-then-places-PRECISION g c =
    let facts = g.S.Flagged.lawful.parameters in (
      omega (arith, ints, facts, c.MIN_EXP.ensures, c.PRECISION.ensures, c.requires, c.if-places-le0.false),
      omega (arith, ints, facts, c.MIN_EXP.ensures, c.PRECISION.ensures, c.requires, c.if-places-PRECISION.true),
      omega (arith, ints, facts, c.MIN_EXP.ensures, c.PRECISION.ensures, c.requires, c.if-places-le0.false),
    )
