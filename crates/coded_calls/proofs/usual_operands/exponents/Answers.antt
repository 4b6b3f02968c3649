use Rattle.std.proofs.Common.{arith}
use Rattle.rustc_apfloat.specs.FlaggedTypes.{constants_of}
use Rattle.fast_bits.proofs.Reading.{few_bits}
use Rattle.coded_calls.proofs.usual_operands.exponents.Goals as goal

pub overflow_shl-result : goal.overflow_shl-result
overflow_shl-result g c =
    let few = few_bits (constants_of g.S.Flagged) g.S.Flagged.lawful c.requires in
    omega (arith, few, c.EXP_BITS.ensures)
