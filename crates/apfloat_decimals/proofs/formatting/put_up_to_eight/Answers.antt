use Rattle.std.proofs.Common.{arith}
use Rattle.apfloat_decimals.proofs.spelled.LastDigits.{digits_put, upper_few}
use Rattle.apfloat_decimals.proofs.formatting.put_up_to_eight.Goals as goal

pub put_up_to_four-at-requires-clause-few : goal.put_up_to_four-at-requires-clause-few
put_up_to_four-at-requires-clause-few c = upper_few 4 c.args.count c.args.number (omega arith) c.requires.few

pub returns-then-count-gt4 : goal.returns-then-count-gt4
returns-then-count-gt4 c =
    digits_put 4 c.args.count c.args.number (omega arith) c.put_up_to_four-at.ensures c.put_four.ensures
