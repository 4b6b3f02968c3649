use Rattle.std.proofs.Common.{◌^◌, ◌≤◌, arith}
use Rattle.std.proofs.Math.Nat.{pow-le-pow_right}
use Rattle.apfloat_model.proofs.general.Powers.{two_pos}
use Rattle.apfloat_arithmetic.proofs.remainders.rest_of_moved.Goals as goal

pub word_moved_rest-requires-clause-narrow : goal.word_moved_rest-requires-clause-narrow
word_moved_rest-requires-clause-narrow c =
    let a : 2 ^ c.args.precision ≤ 2 ^ 62 = pow-le-pow_right two_pos c.if-precision-le62.true in
    let f = c.requires.divisor_fits in
    omega arith

pub u128_moved_rest-requires-clause-narrow : goal.u128_moved_rest-requires-clause-narrow
u128_moved_rest-requires-clause-narrow c =
    let a : 2 ^ c.args.precision ≤ 2 ^ 125 = pow-le-pow_right two_pos c.requires.precise in
    let f = c.requires.divisor_fits in
    omega arith
