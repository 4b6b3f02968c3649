use Rattle.std.proofs.Common.{sym}
use Rattle.formats_at_run_time.specs.Relations.{relations_of}
use Rattle.commands.proofs.RepliesOnce.{only_whole_number}
use Rattle.commands.proofs.calculation.from_whole_number.Goals as goal

pub returns-clause-reply : goal.returns-clause-reply
returns-clause-reply g c =
    only_whole_number (relations_of g.F.Float g.F.PartialOrd.partial_cmp g.F.ValueType.takes_root)
    c.args.round g.F.Float.PRECISION g.F.Float.BITS c.args.word.now _ _ _
    (g.met.F.Float.determined c.args.round) (sym c.in-Some.ensures) c.from_u128_r.ensures c.line.ensures.line
