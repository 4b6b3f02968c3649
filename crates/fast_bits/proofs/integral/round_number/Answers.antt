use Rattle.std.proofs.Common.{arith}
use Rattle.fast_bits.proofs.integral.round_number.Goals as goal

pub round_below_one-requires-clause-below : goal.round_below_one-requires-clause-below
round_below_one-requires-clause-below g c =
    omega (arith, c.biased_exponent-biased.ensures.value, c.place_of_one-one.ensures, c.if-biased-one.true)
