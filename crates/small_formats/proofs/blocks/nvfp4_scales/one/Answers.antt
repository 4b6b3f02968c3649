use Rattle.std.proofs.Common.{◌^◌, lit≤, refl}
use Rattle.apfloat_model.specs.formats.{Formats.single_constants, Lawful.format_with}
use Rattle.small_formats.proofs.blocks_lemmas.NvScales.{positive_quanta}
use Rattle.small_formats.proofs.blocks.nvfp4_scales.one.Goals as goal

pub returns-clause-positive : goal.returns-clause-positive
returns-clause-positive c =
    positive_quanta (format_with single_constants) c.from_bits.result 1 149 (2 ^ 149) c.from_bits.ensures.read
    (lit≤ tt) refl (lit≤ tt) (lit≤ tt)

pub returns-clause-value : goal.returns-clause-value
returns-clause-value c = c.from_bits.ensures.read
