use Rattle.convert_values.specs.Blocks.{AreBlocksConverted}
use Rattle.convert_values.proofs.blocks.BlockConversion.convert_each.Given as goal

-- the blocks before the index
abbrev pub invariant-loop-index : goal.invariant-loop-index
invariant-loop-index l = AreBlocksConverted l.self l.index l.read l.written l.counts
