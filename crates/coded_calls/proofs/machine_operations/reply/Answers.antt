use Rattle.std.proofs.Common.{sym, ◌∙◌}
use Rattle.coded_calls.proofs.UsualAnswers.{replied}
use Rattle.coded_calls.proofs.machine_operations.reply.Goals as goal

pub returns : goal.returns
returns c =
    replied c.args.format c.in-Some-of.format c.args.mode c.in-Some-mode.round c.args.call c.in-Ok.call c.args.machine
    c.in-Some-machine.machine c.args.answer.now c.made.new.answer c.made.result
    (rw (c.in-Some.is) (sym c.of.ensures ∙ c.in-Some-of.is)) c.in-Some-mode.is c.in-Ok.is c.in-Some-machine.is
    c.made.ensures
