use Rattle.std.proofs.Common.{◌-◌, pos, ◌+ℤ◌, w32, arith}
use Rattle.std.proofs.lemmas.Int.{ints, to_z-of_z}
use Rattle.apfloat_model.specs.order.Classes.{quanta_of}
use Rattle.apfloat_model.proofs.arithmetic.Significands.{exponent_fits, significand_lengthened}
use Rattle.apfloat_ieee.specs.Types.{format_of}
use Rattle.small_formats.proofs.quanta.magnitude_of.Goals as goal

pub returns-clause-number : goal.returns-clause-number
returns-clause-number g c =
    let f = format_of g.S.Semantics in
    let exponent = c.number-number.result.exponent in
    let within = c.number-number.ensures.within in
    let exact = to_z-of_z w32 exponent
    (exponent_fits exponent (record { low = omega (arith, ints, within); high = omega (arith, ints, within) })) in
    let value = rw exact at c.last_exponent.ensures.value in
    let last = to_z-of_z w32 c.last_exponent.result (record { sfits = c.last_exponent.type_inv }) in
    rw (last, c.lengthened.ensures.value)
    (significand_lengthened (quanta_of c.args.x) c.number-number.result.significand (125 - c.PRECISION-precision.result)
    (exponent +ℤ pos f.scale) (c.last_exponent.result +ℤ pos f.scale) c.number-number.ensures.number
    (omega (arith, ints, value)))
