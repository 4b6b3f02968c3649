use Rattle.std.proofs.Common.{◌≡◌, ◌+◌, ◌^◌, ◌≤◌, ◌+ℤ◌, refl, to_z, of_z, w32, arith}
use Rattle.std.proofs.{Math.Nat.pow-le-pow_right, lemmas.Int.ints}
use Rattle.apfloat_model.specs.arithmetic.{Exact.signed, Exact.sign_of, Exact.magnitude, Sums.zero_sum_sign}
use Rattle.apfloat_model.proofs.{general.Powers.two_pos, rounding.OddRoundings.to_odd_least}
use Rattle.apfloat_words.proofs.OddTotals.{moved_fits, moved_free, moved_full}
use Rattle.apfloat_arithmetic.proofs.Additions.{read_odd_sign}
use Rattle.apfloat_ieee.specs.FlaggedTypes.{constants_of}
use Rattle.fast_bits.specs.Numbers.{quanta_of}
use Rattle.fast_bits.proofs.{Operands.answered_if_some, OrderedNumbers.ordered_total}
use Rattle.fast_bits.proofs.sums.add_ordered.Goals as goal

pub total_of-total-requires-clause-high_full : goal.total_of-total-requires-clause-high_full
total_of-total-requires-clause-high_full g c =
    let some = g.S.Flagged.lawful.parameters.precision_low in
    let moved = rw c.precision_of-precision.ensures at c.moved_up.ensures in
    rw moved (moved_full c.args.numbers.high.significand g.S.Flagged.PRECISION 62 (omega (arith, some))
    (omega (arith, c.requires.word.precise)) c.requires.high.full)

pub total_of-total-requires-clause-high_fits : goal.total_of-total-requires-clause-high_fits
total_of-total-requires-clause-high_fits g c =
    let short = c.requires.word.precise in
    let moved = rw c.precision_of-precision.ensures at c.moved_up.ensures in
    rw moved (moved_fits c.args.numbers.high.significand g.S.Flagged.PRECISION 62 (omega (arith, short))
    c.requires.high.fits)

pub total_of-total-requires-clause-high_free : goal.total_of-total-requires-clause-high_free
total_of-total-requires-clause-high_free g c =
    let short = c.requires.word.precise in
    let moved = rw c.precision_of-precision.ensures at c.moved_up.ensures in
    rw moved (moved_free c.args.numbers.high.significand g.S.Flagged.PRECISION 62 (omega (arith, short)))

pub total_of-total-requires-clause-low_full : goal.total_of-total-requires-clause-low_full
total_of-total-requires-clause-low_full g c =
    let some = g.S.Flagged.lawful.parameters.precision_low in
    let moved = rw c.precision_of-precision.ensures at c.moved_up-2.ensures in
    rw moved (moved_full c.args.numbers.low.significand g.S.Flagged.PRECISION 62 (omega (arith, some))
    (omega (arith, c.requires.word.precise)) c.requires.low.full)

pub total_of-total-requires-clause-low_fits : goal.total_of-total-requires-clause-low_fits
total_of-total-requires-clause-low_fits g c =
    let short = c.requires.word.precise in
    let moved = rw c.precision_of-precision.ensures at c.moved_up-2.ensures in
    rw moved (moved_fits c.args.numbers.low.significand g.S.Flagged.PRECISION 62 (omega (arith, short))
    c.requires.low.fits)

pub total_of-total-requires-clause-low_free : goal.total_of-total-requires-clause-low_free
total_of-total-requires-clause-low_free g c =
    let short = c.requires.word.precise in
    let moved = rw c.precision_of-precision.ensures at c.moved_up-2.ensures in
    rw moved (moved_free c.args.numbers.low.significand g.S.Flagged.PRECISION 62 (omega (arith, short)))

pub returns-else-total-eq0 : goal.returns-else-total-eq0
returns-else-total-eq0 g c =
    let high = c.args.numbers.high in
    let low = c.args.numbers.low in
    let total = c.total_of-total.result in
    let unit = c.moved_place-place.result in
    let of_zero = zero_sum_sign c.args.round high.negative low.negative in
    let exact = signed high.negative (quanta_of high) +ℤ signed low.negative (quanta_of low) in
    let short = c.requires.word.precise in
    let place = rw c.precision_of-precision.ensures at c.moved_place-place.ensures in
    let first = rw c.precision_of-precision.ensures at c.moved_up.ensures in
    let second = rw c.precision_of-precision.ensures at c.moved_up-2.ensures in
    let w : to_z w32 (of_z w32 unit) ≡ unit = omega (arith, ints, place, c.requires.high.near, short) in
    let d = rw w at c.encode_odd.ensures in
    let few : g.S.Flagged.PRECISION + 1 ≤ 60 = omega (arith, short) in
    let least : 2 ^ (g.S.Flagged.PRECISION + 1) ≤ 2 ^ 60 = pow-le-pow_right two_pos few in
    let r = ordered_total g.S.Flagged.PRECISION high.significand high.place low.significand low.place total unit
    high.negative low.negative c.args.numbers.unlike short c.requires.order.places place c.requires.unlike
    (rw (first, second) at c.total_of-total.ensures.together) (rw (first, second) at c.total_of-total.ensures.apart) in
    let sign : high.negative ≡ sign_of of_zero exact =
    read_odd_sign (2 ^ 60) of_zero exact unit high.negative high.negative total r
    (λ z. absurd (c.if-total-eq0.false z)) (λ z. refl) in
    answered_if_some (constants_of g.S.Flagged) c.args.round high.negative (sign_of of_zero exact)
    (magnitude exact) 1 c.encode_odd.result sign
    (d (magnitude exact) 1 (omega arith)
    (to_odd_least (2 ^ 60) (2 ^ (g.S.Flagged.PRECISION + 1)) total _ _ least r.rounded))
