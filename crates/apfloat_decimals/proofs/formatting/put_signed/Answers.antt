use Rattle.std.proofs.{Common.arith, Common.rules, lemmas.Grind.common_steps}
use Rattle.apfloat_decimals.proofs.spelled.{Lines.some_signed, PutTexts.put_same, PutTexts.put_then}
use Rattle.apfloat_decimals.proofs.formatting.put_signed.Goals as goal

pub put_sign-at-requires-clause-room : goal.put_sign-at-requires-clause-room
put_sign-at-requires-clause-room c =
    let some = some_signed c.args.number (omega arith) in
    omega (arith, some, c.requires.room)

pub returns : goal.returns
returns c =
    put_same (first_of (search rules, grind (arith, common_steps))) (put_then c.put_sign-at.ensures c.put_word.ensures)
