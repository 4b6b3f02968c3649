use Rattle.small_formats.proofs.blocks_lemmas.OneBlock.{dequantized_once}
use Rattle.small_formats.proofs.blocks.theorems.dequantized_blocks_have_one_answer.Goals as goal

pub returns : goal.returns
returns c = dequantized_once
