use Rattle.std.proofs.Common.{◌+◌, ◌-◌, ◌^◌, ◌≤◌, length, arith}
use Rattle.apfloat_decimals.proofs.digits.{FoundDigits.ten_most, ShortNumbers.both_fit}
use Rattle.apfloat_decimals.proofs.spelled.TextFronts.{long_front, short_front}
use Rattle.apfloat_decimals.proofs.texts.first_digits.front_of.Goals as goal

pub returns-then-whole-gt-TAKEN-clause-front : goal.returns-then-whole-gt-TAKEN-clause-front
returns-then-whole-gt-TAKEN-clause-front c =
    long_front c.args.whole.now c.args.fraction.now c.split_at.result.0.now c.split_at.result.1.now 38
    c.number_after.result c.requires.whole c.requires.fraction c.split_at.ensures.front c.split_at.ensures.back
    c.number_after.ensures.number

pub number_after-requires-2-clause-fits : goal.number_after-requires-2-clause-fits
number_after-requires-2-clause-fits c =
    let most : 10 ^ length c.args.whole.now ≤ 10 ^ 38 =
    ten_most (length c.args.whole.now) 38 c.if-whole-gt-TAKEN.false in
    omega (arith, most)

pub number_after-requires-3-clause-fits : goal.number_after-requires-3-clause-fits
number_after-requires-3-clause-fits c =
    let taken : c.min.result ≤ 38 - length c.args.whole.now = omega (arith, c.min.ensures) in
    let first = c.split_at-2.ensures.front_len in
    let few : length c.args.whole.now + length c.split_at-2.result.0.now ≤ 38 =
    omega (arith, taken, first, c.if-whole-gt-TAKEN.false) in
    both_fit c.number_after-2.result (length c.args.whole.now) (length c.split_at-2.result.0.now)
    c.number_after-2.ensures.fits few

pub returns-clause-front : goal.returns-clause-front
returns-clause-front c =
    short_front c.args.whole.now c.args.fraction.now c.split_at-2.result.0.now c.split_at-2.result.1.now c.min.result
    c.number_after-2.result c.number_after-3.result c.requires.fraction c.split_at-2.ensures.front
    c.split_at-2.ensures.back c.number_after-2.ensures.number c.number_after-3.ensures.number
