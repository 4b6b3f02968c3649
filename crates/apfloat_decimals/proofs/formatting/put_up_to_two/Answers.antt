use Rattle.std.proofs.Common.{arith}
use Rattle.apfloat_decimals.proofs.spelled.LastDigits.{no_digits, one_digit}
use Rattle.apfloat_decimals.proofs.spelled.PutTexts.{put_nothing, put_same}
use Rattle.apfloat_decimals.proofs.formatting.put_up_to_two.Goals as goal

pub returns-then-count-eq2 : goal.returns-then-count-eq2
returns-then-count-eq2 c = rw c.if-count-eq2.true c.put_pair.ensures

pub returns-then-count-eq1 : goal.returns-then-count-eq1
returns-then-count-eq1 c =
    put_same (one_digit c.args.count c.args.number (omega arith) c.requires.few) c.put_byte.ensures

pub returns-else-count-eq1 : goal.returns-else-count-eq1
returns-else-count-eq1 c =
    put_same (no_digits c.args.count c.args.number (omega arith))
    (put_nothing c.args.bytes.now c.args.at c.requires.zeros)
