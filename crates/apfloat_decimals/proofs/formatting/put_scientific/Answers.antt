use Rattle.std.proofs.Common.{◌-◌, ◌+ℤ◌, pos, w32, w64, arith}
use Rattle.std.proofs.lemmas.Int.{to_z-of_z}
use Rattle.apfloat_decimals.proofs.spelled.Lines.{first_fits, scientific_counted, scientific_room}
use Rattle.apfloat_decimals.proofs.spelled.PutTexts.{put_same, put_then}
use Rattle.apfloat_decimals.proofs.formatting.put_scientific.Goals as goal

pub put_some_pointed-at-requires-clause-zeros : goal.put_some_pointed-at-requires-clause-zeros
put_some_pointed-at-requires-clause-zeros c = c.requires.zeros

pub put_some_pointed-at-requires-clause-room : goal.put_some_pointed-at-requires-clause-room
put_some_pointed-at-requires-clause-room c =
    let all = scientific_room c.args.at c.args.digits c.args.count c.args.exponent c.requires.count c.requires.room in
    omega (arith, all)

pub put_byte-at-requires-clause-zeros : goal.put_byte-at-requires-clause-zeros
put_byte-at-requires-clause-zeros c = c.put_some_pointed-at.ensures.zeros

pub put_byte-at-requires-clause-room : goal.put_byte-at-requires-clause-room
put_byte-at-requires-clause-room c =
    let all = scientific_room c.args.at c.args.digits c.args.count c.args.exponent c.requires.count c.requires.room in
    omega (arith, all, c.put_some_pointed-at.ensures.moved)

pub put_signed-requires-clause-zeros : goal.put_signed-requires-clause-zeros
put_signed-requires-clause-zeros c = c.put_byte-at.ensures.zeros

pub put_signed-requires-clause-room : goal.put_signed-requires-clause-room
put_signed-requires-clause-room c =
    let exponent = to_z-of_z w32 c.args.exponent c.ranges.exponent in
    let one = to_z-of_z w64 c.from.result (record { sfits = c.from.type_inv }) in
    let other = to_z-of_z w64 c.from-2.result (record { sfits = c.from-2.type_inv }) in
    let sum = to_z-of_z w64 (c.args.exponent +ℤ pos (c.args.count - 1))
    (first_fits c.args.exponent c.args.count c.ranges.exponent c.requires.most) in
    let all = scientific_room c.args.at c.args.digits c.args.count c.args.exponent c.requires.count c.requires.room in
    rw (one, other, c.from.ensures, c.from-2.ensures, exponent, sum)
    (omega (arith, all, c.put_some_pointed-at.ensures.moved, c.put_byte-at.ensures.moved))

pub returns : goal.returns
returns c =
    let exponent = to_z-of_z w32 c.args.exponent c.ranges.exponent in
    let one = to_z-of_z w64 c.from.result (record { sfits = c.from.type_inv }) in
    let other = to_z-of_z w64 c.from-2.result (record { sfits = c.from-2.type_inv }) in
    let sum = to_z-of_z w64 (c.args.exponent +ℤ pos (c.args.count - 1))
    (first_fits c.args.exponent c.args.count c.ranges.exponent c.requires.most) in
    let signed = rw (one, other, c.from.ensures, c.from-2.ensures, exponent, sum) at c.put_signed.ensures in
    put_same (scientific_counted c.args.digits c.args.count c.args.exponent c.requires.count)
    (put_then c.put_some_pointed-at.ensures (put_then c.put_byte-at.ensures signed))
