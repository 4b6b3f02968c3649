use Rattle.std.proofs.Common.{pos, ◌+ℤ◌, w32, refl, arith}
use Rattle.std.proofs.lemmas.Int.{ints, to_z-of_z}
use Rattle.apfloat_model.specs.order.Classes.{quanta_of}
use Rattle.apfloat_model.proofs.arithmetic.Significands.{exponent_fits, significand_in_quanta}
use Rattle.apfloat_ieee.specs.Types.{format_of}
use Rattle.small_formats.proofs.quanta.in_quanta.Goals as goal

pub returns-clause-number : goal.returns-clause-number
returns-clause-number g c =
    let f = format_of g.S.Semantics in
    let exponent = c.magnitude_of-number.result.exponent in
    let within = c.magnitude_of-number.ensures.within in
    let exact = to_z-of_z w32 exponent
    (exponent_fits exponent (record { low = omega (arith, ints, within); high = omega (arith, ints, within) })) in
    let value = rw exact at c.unit_of.ensures.value in
    let unit = to_z-of_z w32 c.unit_of.result (record { sfits = c.unit_of.type_inv }) in
    rw unit
    (significand_in_quanta (quanta_of c.args.x) c.magnitude_of-number.result.digits f.scale c.args.scale exponent
    (exponent +ℤ pos f.scale) c.unit_of.result c.magnitude_of-number.ensures.number refl value)
