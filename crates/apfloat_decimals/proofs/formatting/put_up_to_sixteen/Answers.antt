use Rattle.std.proofs.Common.{◌-◌, ◌^◌, ◌≤◌, arith, lit<}
use Rattle.std.proofs.Math.Nat.{pow-le-pow_right}
use Rattle.apfloat_decimals.proofs.spelled.LastDigits.{digits_put, upper_few}
use Rattle.apfloat_decimals.proofs.formatting.put_up_to_sixteen.Goals as goal

pub put_up_to_eight-at-requires-clause-few : goal.put_up_to_eight-at-requires-clause-few
put_up_to_eight-at-requires-clause-few c = upper_few 8 c.args.count c.args.number (omega arith) c.requires.few

pub returns-then-count-gt8 : goal.returns-then-count-gt8
returns-then-count-gt8 c =
    digits_put 8 c.args.count c.args.number (omega arith) c.put_up_to_eight-at.ensures c.put_eight.ensures

pub overflow_cast-number : goal.overflow_cast-number
overflow_cast-number c =
    let upper = upper_few 8 c.args.count c.args.number (omega arith) c.requires.few in
    let within : c.args.count - 8 ≤ 8 = omega arith in
    let most : 10 ^ (c.args.count - 8) ≤ 10 ^ 8 = pow-le-pow_right (lit< tt) within in
    record { fits = omega (arith, upper, most) }
