use Rattle.small_formats.proofs.blocks_lemmas.OneNvBlock.{tensor_answer_once}
use Rattle.small_formats.proofs.blocks.theorems.tensor_scales_have_one_answer.Goals as goal

pub returns : goal.returns
returns c = tensor_answer_once
