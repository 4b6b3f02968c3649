use Rattle.small_formats.proofs.blocks_lemmas.OneBlock.{quantized_once}
use Rattle.small_formats.proofs.blocks.theorems.quantized_blocks_have_one_answer.Goals as goal

pub returns : goal.returns
returns c = quantized_once
