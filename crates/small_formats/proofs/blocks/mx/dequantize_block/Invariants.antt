use Rattle.std.proofs.Common.{◌≡◌, ℕ, length}
use Rattle.apfloat_model.specs.formats.Datum.{Datum}
use Rattle.apfloat_ieee.specs.FlaggedTypes.{format_of}
use Rattle.small_formats.specs.blocks.MxBlocks.{IsScaled}
use Rattle.small_formats.proofs.blocks_lemmas.Places.{AreWritten}
use Rattle.small_formats.proofs.blocks.mx.dequantize_block.Given as goal

-- the values before the index
abbrev pub invariant-loop-index : goal.invariant-loop-index
invariant-loop-index g l =
    (length l.values ≡ length l.codes)
    × AreWritten (λ (code : ℕ) (value : Datum) (status : ℕ). IsScaled l.element (format_of g.G.Flagged) l.round
    l.scale code value status) l.index l.codes l.values l.counts
