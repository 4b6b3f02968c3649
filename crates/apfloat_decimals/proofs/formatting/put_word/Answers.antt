use Rattle.std.proofs.{Common.arith, lemmas.Fmt.length-decimal-le_wide}
use Rattle.apfloat_decimals.proofs.spelled.{LastDigits.all_digits, PutTexts.put_same, WrittenNumbers.below_power}
use Rattle.apfloat_decimals.proofs.formatting.put_word.Goals as goal

pub put_last-requires-clause-most : goal.put_last-requires-clause-most
put_last-requires-clause-most c =
    let most = length-decimal-le_wide 20 c.args.number (omega arith) (omega arith) (omega arith) in
    omega (arith, most, c.count_of_word.ensures.count)

pub put_last-requires-clause-few : goal.put_last-requires-clause-few
put_last-requires-clause-few c = rw c.count_of_word.ensures.count (below_power c.args.number (omega arith))

pub returns : goal.returns
returns c =
    put_same (all_digits c.count_of_word.result c.args.number (omega arith) c.count_of_word.ensures.count)
    c.put_last.ensures
