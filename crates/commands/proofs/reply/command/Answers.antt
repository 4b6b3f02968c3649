use Rattle.std.proofs.Common.{arith, length, map, string_bytes}
use Rattle.std.proofs.lemmas.{Grind.common_steps, List.length-map}
use Rattle.commands.proofs.Counted.{only_count, only_counted}
use Rattle.commands.proofs.reply.command.Goals as goal

pub returns-then-words-lt4-clause-reply : goal.returns-then-words-lt4-clause-reply
returns-then-words-lt4-clause-reply c =
    only_count (map string_bytes c.args.words.now) _ (length-map c.args.words.now string_bytes) c.then-words-lt4.either

pub returns-clause-reply : goal.returns-clause-reply
returns-clause-reply c =
    let words = map string_bytes c.args.words.now in
    only_counted words (length c.args.words.now) c.as_str-2.result.now c.as_str-3.result.now c.as_str-4.result.now
    c.as_str.result.now c.string_at.result.now c.string_at-2.result.now _ c.answer.ensures.reply
    (length-map c.args.words.now string_bytes) c.if-words-lt4.false c.if-words-gt6.false
    (grind (arith, common_steps)) (grind (arith, common_steps)) (grind (arith, common_steps))
    (grind (arith, common_steps)) c.string_at.ensures c.string_at-2.ensures
