use Rattle.std.proofs.Common.{◌*◌, ◌^◌, w32}
use Rattle.std.proofs.lemmas.{Int.to_z-of_z, Nat.pow_pos}
use Rattle.apfloat_model.specs.order.Classes.{quanta_of}
use Rattle.apfloat_model.proofs.arithmetic.Significands.{exponent_fits}
use Rattle.apfloat_ieee.specs.Types.{format_of}
use Rattle.small_formats.proofs.picks.pick_value.Goals as goal

pub returns : goal.returns
returns g c =
    let f = format_of g.S.Semantics in
    let exact = exponent_fits c.in_quanta-number.result.unit c.in_quanta-number.ensures.within in
    let unit = to_z-of_z w32 c.in_quanta-number.result.unit exact in
    (rw unit at c.pick_by.ensures) (quanta_of c.args.x * 2 ^ c.args.scale) (2 ^ f.scale) (pow_pos f.scale)
    c.in_quanta-number.ensures.number
