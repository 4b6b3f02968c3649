use Rattle.std.proofs.Common.{ℕ, ◌*◌, ◌^◌, ◌<◌, ◌≤◌, ◌∙◌, sym, arith, lit<}
use Rattle.std.proofs.Math.Nat.{div-eq_of_lt, mod-eq_of_lt, pow-le-pow_right}
use Rattle.apfloat_decimals.proofs.{digits.FoundDigits.ten_most, numbers.Values.power_pos}
use Rattle.apfloat_decimals.proofs.spelled.WrittenNumbers.{ten_small, ten_great}
use Rattle.apfloat_decimals.proofs.formatting.parts_of.Goals as goal

-- ten divides it, so a quotient of a word by it has a digit less
fits_half : (number places : ℕ) → 0 < places → number < 2 ^ 64 → number < 2 ^ 63 * 10 ^ places
fits_half number places some few =
    let one : 1 ≤ places = omega (arith, some) in
    let most : 10 ^ 1 ≤ 10 ^ places = pow-le-pow_right (lit< tt) one in
    omega (arith, most, few)

pub checked_division-parts-requires-clause-some : goal.checked_division-parts-requires-clause-some
checked_division-parts-requires-clause-some c = rw c.power_of_ten-unit.ensures (power_pos 10 c.args.places (lit< tt))

pub checked_division-parts-requires-clause-narrow : goal.checked_division-parts-requires-clause-narrow
checked_division-parts-requires-clause-narrow c =
    let most = ten_most c.args.places 18 (omega arith) in
    rw c.power_of_ten-unit.ensures (omega (arith, most))

pub checked_division-parts-requires-clause-fits : goal.checked_division-parts-requires-clause-fits
checked_division-parts-requires-clause-fits c =
    rw c.power_of_ten-unit.ensures (fits_half c.args.number c.args.places (omega arith) (omega arith))

pub returns-then-number-clause-whole : goal.returns-then-number-clause-whole
returns-then-number-clause-whole c =
    rw (← c.power_of_ten-unit.ensures) (c.from.ensures ∙ c.checked_division-parts.ensures.quotient)

pub returns-then-number-clause-rest : goal.returns-then-number-clause-rest
returns-then-number-clause-rest c =
    rw (← c.power_of_ten-unit.ensures) (c.from-then-number.ensures ∙ c.checked_division-parts.ensures.rest)

pub returns-then-places-gt38-clause-whole : goal.returns-then-places-gt38-clause-whole
returns-then-places-gt38-clause-whole c =
    sym (div-eq_of_lt (ten_great c.args.number c.args.places c.ranges.number.fits c.if-places-gt38.true))

pub returns-then-places-gt38-clause-rest : goal.returns-then-places-gt38-clause-rest
returns-then-places-gt38-clause-rest c =
    sym (mod-eq_of_lt (ten_great c.args.number c.args.places c.ranges.number.fits c.if-places-gt38.true))

pub pow-unit-requires : goal.pow-unit-requires
pow-unit-requires c = ten_small c.args.places (omega (arith, c.if-places-gt38.false))

pub nonzero_div-result : goal.nonzero_div-result
nonzero_div-result c = rw c.pow-unit.ensures (power_pos 10 c.args.places (lit< tt))

pub nonzero_rem-result : goal.nonzero_rem-result
nonzero_rem-result c = rw c.pow-unit.ensures (power_pos 10 c.args.places (lit< tt))
