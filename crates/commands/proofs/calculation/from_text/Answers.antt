use Rattle.std.proofs.Common.{Ok, Err}
use Rattle.formats_at_run_time.specs.Relations.{relations_of}
use Rattle.commands.proofs.RepliesOnce.{only_text, only_refusal}
use Rattle.commands.proofs.calculation.from_text.Goals as goal

pub returns-in-Ok-clause-reply : goal.returns-in-Ok-clause-reply
returns-in-Ok-clause-reply g c =
    only_text (relations_of g.F.Float g.F.PartialOrd.partial_cmp g.F.ValueType.takes_root)
    c.args.round g.F.Float.PRECISION g.F.Float.BITS c.args.text.now _ _ (g.met.F.Float.determined c.args.round)
    (g.met.F.ValueType.reads_texts c.args.text.now c.args.round (Ok c.in-Ok.answer) c.in-Ok.ensures)
    c.in-Ok.ensures c.line.ensures.line

pub returns-in-Err-clause-reply : goal.returns-in-Err-clause-reply
returns-in-Err-clause-reply g c =
    only_refusal (relations_of g.F.Float g.F.PartialOrd.partial_cmp g.F.ValueType.takes_root) c.args.round
    g.F.Float.BITS c.args.text.now _
    (g.met.F.ValueType.reads_texts c.args.text.now c.args.round (Err c.in-Err.error) c.in-Err.ensures)
