use Rattle.rustc_apfloat.specs.FlaggedTypes.{constants_of}
use Rattle.apfloat_arrays.specs.Tasks.{AreNumbersOf}
use Rattle.apfloat_arrays.proofs.specials.convert_group.Given as goal

abbrev pub invariant-loop-index : goal.invariant-loop-index
invariant-loop-index g l =
    AreNumbersOf (constants_of g.S.Flagged) (constants_of g.T.Flagged) l.task l.index l.width g.row.N l.output l.counts
