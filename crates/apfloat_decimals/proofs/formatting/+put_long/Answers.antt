use Rattle.std.proofs.{Common.sym, Common.arith, lemmas.Fmt.decimal_step_wide}
use Rattle.apfloat_decimals.proofs.spelled.{PutTexts.put_same, PutTexts.put_then, WrittenNumbers.shorter}
use Rattle.apfloat_decimals.proofs.formatting.+put_long.Goals as goal

pub put_long-at-requires : goal.put_long-at-requires
put_long-at-requires t c =
    let less = shorter c.args.number (omega (arith, c.if-number.false)) c.ranges.number.fits in
    let room = c.requires.room in
    (omega (arith, c.decreases, c.if-number.false), (c.requires.zeros, omega (arith, less, room)))

pub put_byte-requires-clause-room : goal.put_byte-requires-clause-room
put_byte-requires-clause-room t c =
    let less = shorter c.args.number (omega (arith, c.if-number.false)) c.ranges.number.fits in
    omega (arith, less, c.requires.room, c.put_long-at.ensures.moved)

pub returns-else-number : goal.returns-else-number
returns-else-number t c =
    put_same
    (sym (decimal_step_wide c.args.number (omega (arith, c.if-number.false)) (omega (arith, c.ranges.number.fits))))
    (put_then c.put_long-at.ensures c.put_byte.ensures)
