use Rattle.std.proofs.Common.{◌-◌, ◌^◌, ◌≤◌, arith, w32}
use Rattle.std.proofs.lemmas.Int.{ints, to_z-of_z}
use Rattle.apfloat_model.specs.{order.Classes.quanta_of, rounding.Flags.bits_of}
use Rattle.apfloat_model.proofs.arithmetic.Significands.{exponent_fits}
use Rattle.apfloat_ieee.specs.Types.{format_of}
use Rattle.small_formats.specs.{Storage.format_with, Types.constants_of}
use Rattle.small_formats.proofs.{QuotientPicks.quotient_long, QuotientPicks.quotient_stands, StoredPicks.saturated}
use Rattle.small_formats.proofs.quotients.divide_positive.Goals as goal

-- at least 126 digits
pub pick_with_loss-requires-clause-long : goal.pick_with_loss-requires-clause-long
pick_with_loss-requires-clause-long g c =
    let high = c.magnitude_of-divisor.ensures.high in
    let low = c.magnitude_of-divisor.ensures.low in
    let long : 2 ^ (126 - 1) ≤ c.divide_u128-quotient.result.whole =
    quotient_long c.divide_u128-quotient.result.whole c.magnitude_of-dividend.result.digits
    c.magnitude_of-divisor.result.digits (2 ^ 124) 126 (omega (arith, low)) c.magnitude_of-dividend.ensures.low
    (omega (arith, high)) (omega arith) c.divide_u128-quotient.ensures.quotient in
    omega (arith, long)

pub returns : goal.returns
returns g c = λ amount parts u same.
    let d = constants_of g.F.StorageFormat in
    let f = format_of g.S.Semantics in
    let h = format_of g.R.Semantics in
    let x = c.magnitude_of-dividend in
    let y = c.magnitude_of-divisor in
    let x_low = x.ensures.within.low in
    let x_high = x.ensures.within.high in
    let y_low = y.ensures.within.low in
    let y_high = y.ensures.within.high in
    let exponent = to_z-of_z w32 x.result.exponent
    (exponent_fits x.result.exponent
    (record { low = omega (arith, ints, x_low); high = omega (arith, ints, x_high) })) in
    let other = to_z-of_z w32 y.result.exponent
    (exponent_fits y.result.exponent
    (record { low = omega (arith, ints, y_low); high = omega (arith, ints, y_high) })) in
    let unit = to_z-of_z w32 c.quotient_unit-unit.result (record { sfits = c.quotient_unit-unit.type_inv }) in
    let value = rw (exponent, other) at c.quotient_unit-unit.ensures.value in
    let at = c.scale.ensures.value in
    let some = c.requires.y.some in
    let picked = (rw (unit, c.PRECISION.ensures) at c.pick_with_loss.ensures) amount parts u
    (quotient_stands c.divide_u128-quotient.result.whole c.divide_u128-quotient.result.loss x.result.digits
    y.result.digits (quanta_of c.args.x) (quanta_of c.args.y) f.scale h.scale (format_with d).scale x.result.exponent
    y.result.exponent c.quotient_unit-unit.result amount parts some u x.ensures.number y.ensures.number
    (omega (arith, ints, value, at)) c.divide_u128-quotient.ensures.stands same) in
    saturated d c.args.mode c.args.negative amount parts c.pick_with_loss.result.index c.deliver_pick.result.value
    (bits_of c.deliver_pick.result.status) c.pick_with_loss.result.exact picked
    (c.deliver_pick.ensures amount parts picked.exact_is)
