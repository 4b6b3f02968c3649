use Rattle.std.proofs.Common.{arith}
use Rattle.apfloat_ieee.specs.FlaggedTypes.{constants_of}
use Rattle.fast_bits.proofs.Reading.{biased_fits}
use Rattle.fast_bits.proofs.numbers.biased_exponent.Goals as goal

pub overflow_cast-result : goal.overflow_cast-result
overflow_cast-result g c =
    let low = biased_fits (constants_of g.S.Flagged) _ _ _ g.S.Flagged.lawful c.requires.bits c.low_digits.ensures
    c.EXP_BITS.ensures in
    omega (arith, low)

pub returns-clause-bound : goal.returns-clause-bound
returns-clause-bound g c =
    biased_fits (constants_of g.S.Flagged) _ _ _ g.S.Flagged.lawful c.requires.bits c.low_digits.ensures
    c.EXP_BITS.ensures
