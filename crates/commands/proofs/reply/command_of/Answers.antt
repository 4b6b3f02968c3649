use Rattle.commands.proofs.Counted.{only_counted_texts}
use Rattle.commands.proofs.reply.command_of.Goals as goal

pub returns-clause-reply : goal.returns-clause-reply
returns-clause-reply c =
    only_counted_texts c.args.words.now _ c.text_at.result.now c.text_at-2.result.now _ c.answer.ensures.reply
    c.if-words-lt4.false c.if-words-gt6.false c.text_at.ensures c.text_at-2.ensures
