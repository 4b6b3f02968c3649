use Rattle.std.proofs.{Common.sym, Common.arith, lemmas.Fmt.decimal_digit}
use Rattle.apfloat_decimals.proofs.spelled.LastDigits.{all_digits, counted_between}
use Rattle.apfloat_decimals.proofs.spelled.{PutTexts.put_same, WrittenNumbers.single}
use Rattle.apfloat_decimals.proofs.formatting.put_number.Goals as goal

pub put_byte-requires-clause-room : goal.put_byte-requires-clause-room
put_byte-requires-clause-room c = let one = single c.args.number (omega arith) in omega (arith, one, c.requires.room)

pub returns-then-number-lt10 : goal.returns-then-number-lt10
returns-then-number-lt10 c = put_same (sym (decimal_digit c.args.number (omega arith))) c.put_byte.ensures

pub put_pair-requires-clause-room : goal.put_pair-requires-clause-room
put_pair-requires-clause-room c =
    let two = counted_between 1 c.args.number (omega arith) (omega arith) (omega arith) in
    omega (arith, two, c.requires.room)

pub returns-then-number-lt100 : goal.returns-then-number-lt100
returns-then-number-lt100 c =
    let two = counted_between 1 c.args.number (omega arith) (omega arith) (omega arith) in
    put_same (all_digits 2 c.args.number (omega arith) (sym two)) c.put_pair.ensures
