use Rattle.std.proofs.Common.{◌≡◌, ◌*◌, ◌^◌, arith, lit<, of_z, to_z, w32}
use Rattle.std.proofs.lemmas.Int.{ints, to_z-of_z}
use Rattle.apfloat_model.specs.rounding.Standing.{up, down}
use Rattle.rustc_apfloat.specs.FlaggedTypes.{format_of}
use Rattle.apfloat_decimals.proofs.numbers.Values.{power_pos}
use Rattle.coded_calls.proofs.EncodedNumbers.{decimal_odd}
use Rattle.coded_calls.proofs.encoded_decimals.encode_decimal.Goals as goal

pub returns-in-Some : goal.returns-in-Some
returns-in-Some g c =
    let number = c.args.number in
    let odd = c.in-Some.odd in
    let scale = (format_of g.S.Flagged).scale in
    let within = c.requires.within in
    let ten : to_z w32 (of_z w32 number.exponent) ≡ number.exponent = omega (arith, ints) in
    let is = rw ten at c.in-Some.ensures in
    let near = is.within in
    let place : to_z w32 (of_z w32 odd.exponent) ≡ odd.exponent = omega (arith, ints) in
    let value = rw place at c.unit_of-unit.ensures.value in
    let unit : to_z w32 (of_z w32 c.unit_of-unit.result) ≡ c.unit_of-unit.result =
    to_z-of_z w32 c.unit_of-unit.result (record { sfits = c.unit_of-unit.type_inv }) in
    c.encode_odd.ensures (number.digits * 10 ^ up number.exponent * 2 ^ scale) (10 ^ down number.exponent)
    (power_pos 10 (down number.exponent) (lit< tt))
    (rw (unit, value)
    (decimal_odd g.S.Flagged.PRECISION number.digits odd.significand scale number.exponent odd.exponent
    c.requires.word.precise is))
