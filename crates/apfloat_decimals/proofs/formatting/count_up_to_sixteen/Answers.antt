use Rattle.std.proofs.Common.{arith}
use Rattle.apfloat_decimals.proofs.spelled.LastDigits.{counted_split}
use Rattle.apfloat_decimals.proofs.formatting.count_up_to_sixteen.Goals as goal

pub returns-clause-count : goal.returns-clause-count
returns-clause-count c =
    let all = counted_split 8 c.args.number (omega arith) (omega arith) in
    omega (arith, all)
