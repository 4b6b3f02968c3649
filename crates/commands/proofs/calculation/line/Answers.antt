use Rattle.rustc_apfloat.specs.declared.Round.TheVariants.{NearestTiesToEven}
use Rattle.formats_at_run_time.specs.Relations.{relations_of}
use Rattle.commands.proofs.RepliesOnce.{only_line}
use Rattle.commands.proofs.calculation.line.Goals as goal

pub returns-clause-line : goal.returns-clause-line
returns-clause-line g c =
    let once = (g.met.F.Float.determined NearestTiesToEven).bits c.requires.written c.args.answer.value in
    only_line (relations_of g.F.Float g.F.PartialOrd.partial_cmp g.F.ValueType.takes_root) _ _ _ _
    c.to_bits.ensures.written once c.BITS.ensures
