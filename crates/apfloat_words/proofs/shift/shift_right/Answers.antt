use Rattle.std.proofs.Common.{◌≡◌, ◌-◌, ◌*◌, ◌%◌, ◌^◌, ◌<◌, arith}
use Rattle.std.proofs.lemmas.Nat.{mod_below, pow_pos}
use Rattle.apfloat_model.proofs.general.Powers.{twice_half}
use Rattle.apfloat_model.proofs.rounding.Losses.{cut_at, cut_whole, zero_beyond}
use Rattle.apfloat_words.proofs.shift.shift_right.Goals as goal

pub returns-then-places-gt128-clause-quotient : goal.returns-then-places-gt128-clause-quotient
returns-then-places-gt128-clause-quotient c =
    zero_beyond c.args.significand c.args.places c.if-places-gt128.true c.ranges.significand.fits

pub returns-then-places-eq128-clause-stands : goal.returns-then-places-eq128-clause-stands
returns-then-places-eq128-clause-stands c =
    cut_whole c.args.significand c.args.places c.power_of_two-half.result c.args.loss c.loss_of_rest.result
    c.if-places-eq128.true c.ranges.significand.fits c.power_of_two-half.ensures c.loss_of_rest.ensures

pub returns-clause-stands : goal.returns-clause-stands
returns-clause-stands c =
    let p : 0 < c.args.places = omega arith in
    cut_at c.args.significand c.args.places c.power_of_two-half.result c.low_digits.result c.args.loss
    c.loss_of_rest-2.result p c.power_of_two-half.ensures c.low_digits.ensures c.loss_of_rest-2.ensures

pub loss_of_rest-requires-2 : goal.loss_of_rest-requires-2
loss_of_rest-requires-2 c =
    let p : 0 < c.args.places = omega arith in
    let t : 2 * 2 ^ (c.args.places - 1) ≡ 2 ^ c.args.places = twice_half c.args.places p in
    let d : c.power_of_two-half.result ≡ 2 ^ (c.args.places - 1) = c.power_of_two-half.ensures in
    let k : 0 < 2 ^ c.args.places = pow_pos c.args.places in
    let m : c.args.significand % 2 ^ c.args.places < 2 ^ c.args.places =
    mod_below c.args.significand (2 ^ c.args.places) k in
    let e : c.low_digits.result ≡ c.args.significand % 2 ^ c.args.places = c.low_digits.ensures in
    omega arith
