use Rattle.std.proofs.Common.{arith}
use Rattle.apfloat_decimals.proofs.spelled.LastDigits.{digits_put, upper_few}
use Rattle.apfloat_decimals.proofs.formatting.put_last.Goals as goal

pub put_up_to_sixteen-at-requires-clause-few : goal.put_up_to_sixteen-at-requires-clause-few
put_up_to_sixteen-at-requires-clause-few c = upper_few 8 c.args.count c.args.number (omega arith) c.requires.few

pub returns-then-count-gt16 : goal.returns-then-count-gt16
returns-then-count-gt16 c =
    digits_put 8 c.args.count c.args.number (omega arith) c.put_up_to_sixteen-at.ensures c.put_eight.ensures
