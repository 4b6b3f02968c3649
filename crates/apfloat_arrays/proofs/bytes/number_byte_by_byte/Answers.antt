use Rattle.std.proofs.Common.{◌-◌, ◌<◌, length, arith}
use Rattle.apfloat_arrays.proofs.LittleEndian.{read_none, read_more, read_to_end, one_more_fits}
use Rattle.apfloat_arrays.proofs.bytes.number_byte_by_byte.Goals as goal

pub loop-place-init : goal.loop-place-init
loop-place-init c = read_none c.args.bytes.now

pub overflow_mul-number : goal.overflow_mul-number
overflow_mul-number c =
    let within : c.loop-place.place < 16 = omega arith in
    let small : 0 < 256 = omega arith in
    let fits = one_more_fits c.loop-place.number 0 c.loop-place.place c.loop-place.invariant.below small within in
    omega arith

pub overflow_add-number : goal.overflow_add-number
overflow_add-number c =
    let within : c.loop-place.place < 16 = omega arith in
    let byte = c.type_inv.bytes (length c.args.bytes.now - 1 - c.loop-place.place) in
    let small : c.from.result < 256 = omega (arith, c.from.ensures, byte) in
    let fits =
    one_more_fits c.loop-place.number c.from.result c.loop-place.place c.loop-place.invariant.below small within
    in omega arith

pub loop-place-preserved : goal.loop-place-preserved
loop-place-preserved c =
    let byte = c.type_inv.bytes (length c.args.bytes.now - 1 - c.loop-place.place) in
    read_more c.args.bytes.now c.loop-place.number c.from.result c.loop-place.place (omega arith) c.loop-place.invariant
    c.from.ensures (omega (arith, c.from.ensures, byte))

pub returns : goal.returns
returns c = read_to_end c.args.bytes.now c.loop-place.number c.loop-place.place (omega arith) c.loop-place.invariant
