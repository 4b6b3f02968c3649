use Rattle.std.proofs.Common.{◌-◌, ◌^◌, ◌<◌, arith, w32}
use Rattle.std.proofs.lemmas.{Int.ints, Int.to_z-of_z, Nat.pow_pos}
use Rattle.apfloat_model.specs.order.Classes.{quanta_of}
use Rattle.apfloat_model.proofs.arithmetic.Significands.{significand_value}
use Rattle.apfloat_ieee.specs.Types.{format_of}
use Rattle.apfloat_decimals.specs.ExactDecimals.{IsNumberOf}
use Rattle.apfloat_decimals.proofs.{digits.ExactDecimals.number_of, numbers.QuantumPlaces.number_exponent}
use Rattle.apfloat_digits.proofs.decimal_lemmas.DigitPlaces.{counted, last_below}
use Rattle.apfloat_digits.proofs.decimal_lemmas.ScaledValues.{last_of, first_within}
use Rattle.apfloat_digits.proofs.decimal.counted.count_of.{Given.Over, Goals.After-first_place}
use Rattle.apfloat_digits.proofs.decimal.counted.count_of.Goals as goal

pub last_place-place-requires-clause-some : goal.last_place-place-requires-clause-some
last_place-place-requires-clause-some g c =
    let least : 0 < 2 ^ (g.S.Semantics.PRECISION - 1) = pow_pos (g.S.Semantics.PRECISION - 1) in
    omega (arith, least, c.number-number.ensures.full)

pub last_place-place-requires-clause-within : goal.last_place-place-requires-clause-within
last_place-place-requires-clause-within g c =
    let law = g.S.Semantics.lawful.parameters in
    let number = c.number-number in
    rw (number_exponent number.result.exponent number.ensures.within)
    (last_of (format_of g.S.Semantics) (quanta_of c.args.x) number.result.significand number.result.exponent
    c.requires.exponents law.precision_low law.precision_high c.requires.positive.some
    c.requires.positive.member.within number.ensures.fits number.ensures.full number.ensures.number).within

pub count_between-requires-clause-first : goal.count_between-requires-clause-first
count_between-requires-clause-first g c =
    let first = to_z-of_z w32 c.first_place.result (record { sfits = c.first_place.type_inv }) in
    let low = first_within (format_of g.S.Semantics) (quanta_of c.args.x) c.first_place.result c.requires.exponents
    g.S.Semantics.lawful.parameters.precision_high c.requires.positive.some c.first_place.ensures.between.to in
    let high = c.first_place.ensures.within in
    rw first (record { low = omega (arith, ints, low, high); high = omega (arith, ints, low, high) })

-- the digits of the value, down to its last one
number_is : (g : Over) → (state : After-first_place g)
    → IsNumberOf (format_of g.S.Semantics) (quanta_of state.args.x) state.last_place-place.ensures.digits.0
    state.last_place-place.result
number_is g c =
    let f = format_of g.S.Semantics in
    let number = c.number-number in
    let last = number_exponent number.result.exponent number.ensures.within in
    number_of f (quanta_of c.args.x) number.result.significand c.last_place-place.ensures.digits.0
    number.result.exponent c.last_place-place.result
    (significand_value f (quanta_of c.args.x) number.result.significand number.result.exponent number.ensures.number)
    (rw last at c.last_place-place.ensures.digits.1)

pub count_between-requires-clause-order : goal.count_between-requires-clause-order
count_between-requires-clause-order g c =
    let state = (goal.at.count_between-requires-clause-order g c).After-first_place in
    let first = to_z-of_z w32 c.first_place.result (record { sfits = c.first_place.type_inv }) in
    let place = to_z-of_z w32 c.last_place-place.result (record { sfits = c.last_place-place.type_inv }) in
    rw (first, place)
    (last_below (format_of g.S.Semantics) (quanta_of c.args.x) c.last_place-place.ensures.digits.0 c.first_place.result
    c.last_place-place.result c.first_place.ensures.between (number_is g state)
    c.last_place-place.ensures.digits.1.last)

pub returns : goal.returns
returns g c =
    let state = (goal.at.returns g c).After-first_place in
    let first = to_z-of_z w32 c.first_place.result (record { sfits = c.first_place.type_inv }) in
    let place = to_z-of_z w32 c.last_place-place.result (record { sfits = c.last_place-place.type_inv }) in
    counted (format_of g.S.Semantics) (quanta_of c.args.x) c.last_place-place.ensures.digits.0 c.count_between.result
    c.first_place.result c.last_place-place.result c.first_place.ensures.between (number_is g state)
    c.last_place-place.ensures.digits.1.last (rw (first, place) at c.count_between.ensures)
