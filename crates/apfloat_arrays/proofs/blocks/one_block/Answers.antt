use Rattle.apfloat_arrays.proofs.OneBlock.{block_once}
use Rattle.apfloat_arrays.proofs.blocks.one_block.Goals as goal

pub returns : goal.returns
returns c = block_once
