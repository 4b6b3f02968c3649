use Rattle.std.proofs.Common.{◌*◌, ◌^◌, ap, lit≤, refl}
use Rattle.apfloat_model.specs.{formats.Formats.half_constants, formats.Lawful.format_with, order.Classes.quanta_of}
use Rattle.small_formats.proofs.blocks_lemmas.NvScales.{positive_quanta}
use Rattle.small_formats.proofs.blocks.nvfp4_scales.most.Goals as goal

pub returns-clause-positive : goal.returns-clause-positive
returns-clause-positive c =
    positive_quanta (format_with half_constants) c.from_bits.result 1344 25 (2688 * 2 ^ 24) c.from_bits.ensures.read
    (lit≤ tt) refl (lit≤ tt) (lit≤ tt)

pub returns-clause-value : goal.returns-clause-value
returns-clause-value c = ap quanta_of c.from_bits.ensures.read
