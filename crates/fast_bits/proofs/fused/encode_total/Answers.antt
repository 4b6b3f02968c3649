use Rattle.std.proofs.Common.{◌≡◌, ◌+◌, ◌-◌, ◌*◌, ◌^◌, ◌<◌, ◌≤◌, to_z, of_z, w32, arith}
use Rattle.std.proofs.{Math.Nat.pow-le-pow_right, lemmas.Int.ints, lemmas.Nat.pow_pos}
use Rattle.apfloat_ieee.specs.FlaggedTypes.{format_of}
use Rattle.apfloat_model.specs.rounding.Standing.{up, down}
use Rattle.apfloat_model.proofs.general.Powers.{some_digits, two_pos}
use Rattle.apfloat_rounding.proofs.OddCuts.{top_fits, top_full}
use Rattle.fast_bits.proofs.OddNumbers.{total_in_quanta, upper_to_odd}
use Rattle.fast_bits.proofs.fused.encode_total.Goals as goal

pub upper_word-word-requires : goal.upper_word-word-requires
upper_word-word-requires g c =
    let any =
    some_digits c.args.total.significand c.digits-digits.result c.requires.some c.digits-digits.ensures.below in
    rw c.at_double_top.ensures
    (top_full 128 c.args.total.significand c.digits-digits.result any c.digits-digits.ensures.bound
    (c.digits-digits.ensures.full any))

pub returns : goal.returns
returns g c = λ amount rounded.
    let total = c.args.total in
    let digits = c.digits-digits.result in
    let scale = (format_of g.S.Flagged).scale in
    let place = c.upper_place-place.result in
    let at = c.upper_place-place.ensures in
    let w : to_z w32 (of_z w32 place) ≡ place =
    omega (arith, ints, at, c.requires.near, c.digits-digits.ensures.bound, g.S.Flagged.lawful.parameters) in
    let few : g.S.Flagged.PRECISION + 1 ≤ 63 = omega (arith, c.requires.word.precise) in
    let long : 2 ^ (g.S.Flagged.PRECISION + 1) ≤ c.upper_word-word.result =
    omega (arith, pow-le-pow_right two_pos few, c.upper_word-word.ensures.full) in
    let some : 0 < 1 * 2 ^ up total.exponent = omega (arith, pow_pos (up total.exponent)) in
    let odd = upper_to_odd (2 ^ (g.S.Flagged.PRECISION + 1)) total.significand c.upper_word-word.result (128 - digits)
    (amount * 2 ^ down total.exponent) (1 * 2 ^ up total.exponent) long some
    (top_fits 128 total.significand digits c.digits-digits.ensures.bound c.digits-digits.ensures.below)
    (rw c.at_double_top.ensures at c.upper_word-word.ensures.rounded) rounded in
    let d = rw w at c.encode_counted.ensures in
    d amount (2 ^ scale) (pow_pos scale)
    (total_in_quanta (2 ^ (g.S.Flagged.PRECISION + 1)) c.upper_word-word.result amount (128 - digits) scale
    total.exponent place (omega (arith, ints, at, c.digits-digits.ensures.bound)) odd)
