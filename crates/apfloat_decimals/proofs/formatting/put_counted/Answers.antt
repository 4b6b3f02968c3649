use Rattle.std.proofs.{Common.arith, lemmas.Fmt.length-decimal-le_wide}
use Rattle.apfloat_decimals.proofs.spelled.{LastDigits.all_digits, PutTexts.put_same, WrittenNumbers.below_power}
use Rattle.apfloat_decimals.proofs.formatting.put_counted.Goals as goal

pub put_last-requires-clause-most : goal.put_last-requires-clause-most
put_last-requires-clause-most c =
    let most = length-decimal-le_wide 20 c.args.number (omega arith) (omega arith) (omega arith) in
    omega (arith, most, c.requires.count)

pub put_last-requires-clause-few : goal.put_last-requires-clause-few
put_last-requires-clause-few c = rw c.requires.count (below_power c.args.number (omega arith))

pub returns-then-number : goal.returns-then-number
returns-then-number c =
    put_same (all_digits c.args.count c.args.number (omega arith) c.requires.count) c.put_last.ensures
