use Rattle.std.proofs.Common.{arith}
use Rattle.small_formats.proofs.blocks_lemmas.NvScales.{code_of_number}
use Rattle.small_formats.proofs.blocks.nvfp4_scales.code_for.Goals as goal

pub returns-clause-below : goal.returns-clause-below
returns-clause-below c =
    code_of_number c.to_bits.result c.args.scale c.to_bits.ensures.below c.to_bits.ensures.back c.requires.is

pub returns-clause-some : goal.returns-clause-some
returns-clause-some c = λ e. c.to_bits.ensures.back

pub overflow_cast-result : goal.overflow_cast-result
overflow_cast-result c = let below = c.to_bits.ensures.below in record { fits = omega (arith, below) }
