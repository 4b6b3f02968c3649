use Rattle.rustc_apfloat.proofs.double_double_operations_lemmas.Operations.{high_is, low_is}
use Rattle.rustc_apfloat.proofs.double_double_operations.conversions.parts_of.Goals as goal

pub returns-clause-high : goal.returns-clause-high
returns-clause-high c =
    high_is c.to_bits-bits.result c.args.x _ _ c.from_bits.ensures.read c.from_bits-2.ensures.read
    c.to_bits-bits.ensures.back

pub returns-clause-low : goal.returns-clause-low
returns-clause-low c =
    low_is c.to_bits-bits.result c.args.x _ _ c.from_bits.ensures.read c.from_bits-2.ensures.read
    c.to_bits-bits.ensures.back
