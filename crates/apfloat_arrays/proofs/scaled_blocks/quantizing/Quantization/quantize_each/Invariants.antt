use Rattle.std.proofs.Common.{◌≡◌, length}
use Rattle.apfloat_arrays.proofs.scaled_blocks_lemmas.Made.{AreMade}
use Rattle.apfloat_arrays.proofs.scaled_blocks.quantizing.Quantization.quantize_each.Given as goal

-- the blocks before the index
abbrev pub invariant-loop-index : goal.invariant-loop-index
invariant-loop-index l = (length l.scales ≡ l.blocks) × AreMade l.self l.values l.index l.scales l.codes l.counts
