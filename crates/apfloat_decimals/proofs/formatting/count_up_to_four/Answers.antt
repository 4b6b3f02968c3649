use Rattle.std.proofs.Common.{sym, arith}
use Rattle.apfloat_decimals.proofs.spelled.{LastDigits.counted_between, WrittenNumbers.single}
use Rattle.apfloat_decimals.proofs.formatting.count_up_to_four.Goals as goal

pub returns-then-number-lt10-clause-count : goal.returns-then-number-lt10-clause-count
returns-then-number-lt10-clause-count c = sym (single c.args.number c.if-number-lt10.true)

pub returns-then-number-lt100-clause-count : goal.returns-then-number-lt100-clause-count
returns-then-number-lt100-clause-count c =
    sym (counted_between 1 c.args.number (omega arith) (omega arith) (omega arith))

pub returns-then-number-lt1000-clause-count : goal.returns-then-number-lt1000-clause-count
returns-then-number-lt1000-clause-count c =
    sym (counted_between 2 c.args.number (omega arith) (omega arith) (omega arith))

pub returns-clause-count : goal.returns-clause-count
returns-clause-count c = sym (counted_between 3 c.args.number (omega arith) (omega arith) (omega arith))
