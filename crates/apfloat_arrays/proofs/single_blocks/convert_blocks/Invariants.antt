use Rattle.std.specs.Prelude.{◌*◌}
use Rattle.rustc_apfloat.specs.FlaggedTypes.{constants_of}
use Rattle.apfloat_arrays.specs.Tasks.{AreConverted}
use Rattle.apfloat_arrays.proofs.single_blocks.convert_blocks.Given as goal

abbrev pub invariant-loop-index : goal.invariant-loop-index
invariant-loop-index g l =
    AreConverted (constants_of g.S.Flagged) (constants_of g.T.Flagged) l.task l.width (l.index * g.row.N) l.output
    l.counts
