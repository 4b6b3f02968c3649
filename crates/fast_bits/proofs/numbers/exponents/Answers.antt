use Rattle.std.proofs.Common.{arith}
use Rattle.apfloat_ieee.specs.FlaggedTypes.{constants_of}
use Rattle.fast_bits.proofs.Reading.{few_bits}
use Rattle.fast_bits.proofs.numbers.exponents.Goals as goal

pub overflow_shl-result : goal.overflow_shl-result
overflow_shl-result g c =
    omega (arith, few_bits (constants_of g.S.Flagged) g.S.Flagged.lawful c.requires, c.EXP_BITS.ensures)
