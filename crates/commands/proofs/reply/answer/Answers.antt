use Rattle.std.proofs.Common.{sym}
use Rattle.commands.proofs.Counted.{only_named}
use Rattle.commands.proofs.reply.answer.Goals as goal

pub returns-clause-reply : goal.returns-clause-reply
returns-clause-reply c =
    let it = c.args.operands in
    only_named c.args.format.now c.args.operation.now c.args.mode.now it.first.now it.second.now it.third.now
    c.args.count c.in-Some.kind c.in-Ok.known_and_round.0 c.in-Ok.known_and_round.1 _ c.requires
    (sym c.in-Some.ensures) c.in-Ok.ensures c.run.ensures.0
