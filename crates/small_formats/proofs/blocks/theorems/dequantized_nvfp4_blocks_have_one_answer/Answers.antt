use Rattle.small_formats.proofs.blocks_lemmas.OneNvBlock.{nv_dequantized_once}
use Rattle.small_formats.proofs.blocks.theorems.dequantized_nvfp4_blocks_have_one_answer.Goals as goal

pub returns : goal.returns
returns c = nv_dequantized_once
