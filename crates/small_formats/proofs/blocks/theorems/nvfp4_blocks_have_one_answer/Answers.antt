use Rattle.small_formats.proofs.blocks_lemmas.OneNvBlock.{nv_quantized_once}
use Rattle.small_formats.proofs.blocks.theorems.nvfp4_blocks_have_one_answer.Goals as goal

pub returns : goal.returns
returns c = nv_quantized_once
