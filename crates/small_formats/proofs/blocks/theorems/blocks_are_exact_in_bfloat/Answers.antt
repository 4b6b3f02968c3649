use Rattle.small_formats.proofs.blocks_lemmas.ExactBlocks.{exact_into_bfloat}
use Rattle.small_formats.proofs.blocks.theorems.blocks_are_exact_in_bfloat.Goals as goal

pub returns : goal.returns
returns c = exact_into_bfloat
