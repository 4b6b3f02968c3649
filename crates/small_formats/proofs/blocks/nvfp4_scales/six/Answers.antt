use Rattle.std.proofs.Common.{◌*◌, ◌^◌, ap, lit≤, refl}
use Rattle.apfloat_model.specs.{formats.Formats.e4m3fn_constants, formats.Lawful.format_with, order.Classes.quanta_of}
use Rattle.small_formats.proofs.blocks_lemmas.NvScales.{positive_quanta}
use Rattle.small_formats.proofs.blocks.nvfp4_scales.six.Goals as goal

pub returns-clause-positive : goal.returns-clause-positive
returns-clause-positive c =
    positive_quanta (format_with e4m3fn_constants) c.from_bits.result 3 10 (6 * 2 ^ 9) c.from_bits.ensures.read
    (lit≤ tt) refl (lit≤ tt) (lit≤ tt)

pub returns-clause-value : goal.returns-clause-value
returns-clause-value c = ap quanta_of c.from_bits.ensures.read
