use Rattle.std.proofs.Common.{sym, arith}
use Rattle.apfloat_decimals.proofs.spelled.LastDigits.{counted_between}
use Rattle.apfloat_decimals.proofs.formatting.count_sixteen_or_seventeen.Goals as goal

pub returns-then-number-lt10000000000000000-clause-count : goal.returns-then-number-lt10000000000000000-clause-count
returns-then-number-lt10000000000000000-clause-count c =
    sym (counted_between 15 c.args.number (omega arith) (omega arith) (omega arith))

pub returns-else-number-lt10000000000000000-clause-count : goal.returns-else-number-lt10000000000000000-clause-count
returns-else-number-lt10000000000000000-clause-count c =
    sym (counted_between 16 c.args.number (omega arith) (omega arith) (omega arith))
