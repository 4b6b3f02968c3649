use Rattle.std.proofs.Common.{◌*◌, ◌^◌, refl, w32, pos, ◌+ℤ◌}
use Rattle.std.proofs.lemmas.{Int.to_z-of_z, Nat.pow_pos}
use Rattle.apfloat_ieee.specs.FlaggedTypes.{format_of}
use Rattle.small_formats.proofs.StoredNumbers.{point_in_quanta}
use Rattle.small_formats.proofs.grid_points.convert_point.Goals as goal

pub returns-clause-delivered : goal.returns-clause-delivered
returns-clause-delivered g c =
    let f = format_of g.T.Flagged in
    let quanta = c.args.point.significand * 2 ^ c.args.point.place in
    let exponent = to_z-of_z w32 c.exponent_of.result (record { sfits = c.exponent_of.type_inv }) in
    let delivered = rw (exponent, c.from.ensures) at c.deliver-answer.ensures in
    delivered (quanta * 2 ^ f.scale) (2 ^ c.args.scale) (pow_pos c.args.scale)
    (point_in_quanta quanta c.args.point.significand c.args.point.place c.args.scale f.scale c.exponent_of.result
    (c.exponent_of.result +ℤ pos f.scale) refl c.exponent_of.ensures.value refl)
