use Rattle.std.proofs.Common.{ap, ◌∙◌}
use Rattle.apfloat_arrays.specs.scaled_blocks.Formats.{tensor_of}
use Rattle.apfloat_arrays.proofs.scaled_blocks.formats.tensor_of.Goals as goal

pub returns : goal.returns
returns c = c.from_bits.ensures.read ∙ ap tensor_of c.from.ensures
