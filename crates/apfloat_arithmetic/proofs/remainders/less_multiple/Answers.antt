use Rattle.std.proofs.Common.{◌*◌, ◌<◌, ◌≤◌, arith}
use Rattle.apfloat_arithmetic.proofs.WholeQuotients.{one_lower}
use Rattle.apfloat_arithmetic.proofs.remainders.less_multiple.Goals as goal

pub returns-else-rest-divisor-clause-taken : goal.returns-else-rest-divisor-clause-taken
returns-else-rest-divisor-clause-taken c =
    let z : 0 < c.args.rest.place = omega arith in
    let l : c.args.divisor.significand ≤ 2 * c.args.rest.significand = omega arith in
    one_lower c.args.rest.significand c.args.divisor.significand c.args.rest.place z l
