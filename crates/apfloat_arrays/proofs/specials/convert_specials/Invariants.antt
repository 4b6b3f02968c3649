use Rattle.std.specs.Prelude.{◌*◌}
use Rattle.rustc_apfloat.specs.FlaggedTypes.{constants_of}
use Rattle.apfloat_arrays.specs.Tasks.{AreNumbersOf}
use Rattle.apfloat_arrays.proofs.specials.convert_specials.Given as goal

abbrev pub invariant-loop-group : goal.invariant-loop-group
invariant-loop-group g l =
    AreNumbersOf (constants_of g.S.Flagged) (constants_of g.T.Flagged) l.task (l.group * 16) l.width g.row.N l.output
    l.counts
