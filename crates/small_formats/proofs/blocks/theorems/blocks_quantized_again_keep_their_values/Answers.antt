use Rattle.small_formats.proofs.blocks_lemmas.again.Blocks.{quantized_again}
use Rattle.small_formats.proofs.blocks.theorems.blocks_quantized_again_keep_their_values.Goals as goal

pub returns : goal.returns
returns c = quantized_again
