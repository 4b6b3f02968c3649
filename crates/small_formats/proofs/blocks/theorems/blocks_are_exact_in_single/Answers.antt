use Rattle.small_formats.proofs.blocks_lemmas.{ExactBlocks.exact_into_single, exact.Singles.exact_from_singles}
use Rattle.small_formats.proofs.blocks.theorems.blocks_are_exact_in_single.Goals as goal

pub returns-clause-each : goal.returns-clause-each
returns-clause-each c = exact_into_single

pub returns-clause-quantized : goal.returns-clause-quantized
returns-clause-quantized c = exact_from_singles
