use Rattle.commands.proofs.Runs.{line_run, refusal_run}
use Rattle.commands.proofs.output.run.Goals as goal

pub returns-in-Line : goal.returns-in-Line
returns-in-Line g c = line_run _ _ _ _ _ _ _ _ _ c.in-Line.ensures.reply c.write_line.ensures c.status_after.ensures

pub returns-in-Refused : goal.returns-in-Refused
returns-in-Refused g c =
    refusal_run _ _ _ _ _ _ _ c.in-Refused.ensures.reply c.write_refusal.ensures c.status_after-in-Refused.ensures
