use Rattle.rustc_apfloat.specs.FlaggedTypes.{constants_of}
use Rattle.apfloat_arrays.proofs.scaled_blocks_lemmas.Scaled.{AreScaled}
use Rattle.apfloat_arrays.proofs.scaled_blocks.dequantizing.write_each.Given as goal

-- the values before the index
abbrev pub invariant-loop-index : goal.invariant-loop-index
invariant-loop-index g l =
    AreScaled l.call.dequantization (constants_of g.T.Flagged) l.call.width l.call.scales.now l.call.codes.now l.index
    l.bytes l.counts
