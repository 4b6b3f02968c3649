use Rattle.std.proofs.Common.{◌≡◌, length}
use Rattle.apfloat_model.specs.order.Classes.{quanta_of}
use Rattle.apfloat_ieee.specs.FlaggedTypes.{format_of}
use Rattle.small_formats.specs.blocks.Nvfp4.{IsNvScaled}
use Rattle.small_formats.proofs.blocks_lemmas.Places.{AreWritten}
use Rattle.small_formats.proofs.blocks.nvfp4.dequantize_nvfp4_block.Given as goal

-- the values before the index
abbrev pub invariant-loop-index : goal.invariant-loop-index
invariant-loop-index g l =
    (length l.values ≡ length l.codes) × AreWritten
    (IsNvScaled (format_of g.G.Flagged) l.round (quanta_of l.tensor) l.scale) l.index l.codes l.values l.counts
