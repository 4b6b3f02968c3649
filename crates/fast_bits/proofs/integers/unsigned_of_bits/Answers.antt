use Rattle.std.proofs.Common.{arith}
use Rattle.apfloat_ieee.specs.FlaggedTypes.{constants_of}
use Rattle.fast_bits.proofs.RoundedIntegers.{unsigned_if_some}
use Rattle.fast_bits.proofs.integers.unsigned_of_bits.Goals as goal

pub returns-in-Some : goal.returns-in-Some
returns-in-Some g c =
    unsigned_if_some (constants_of g.S.Flagged) c.args.round c.args.bits c.args.width
    c.is_minus-negative.result c.in-Some.x c.unsigned_within.result c.in-Some.ensures (omega arith) (omega arith)
    c.unsigned_within.ensures
