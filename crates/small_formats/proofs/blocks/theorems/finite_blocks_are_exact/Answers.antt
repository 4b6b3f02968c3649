use Rattle.small_formats.proofs.blocks_lemmas.exact.Blocks.{exact_block}
use Rattle.small_formats.proofs.blocks.theorems.finite_blocks_are_exact.Goals as goal

pub returns : goal.returns
returns c = exact_block
