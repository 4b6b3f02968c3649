use Rattle.std.proofs.Common.{arith}
use Rattle.apfloat_arrays.proofs.LittleEndian.{write_none, write_more, write_to_end}
use Rattle.apfloat_arrays.proofs.bytes.write_byte_by_byte.Goals as goal

pub loop-place-init : goal.loop-place-init
loop-place-init c = write_none c.args.number c.args.bytes.now

pub loop-place-preserved : goal.loop-place-preserved
loop-place-preserved c =
    write_more c.args.number c.loop-place.rest c.loop-place.place c.loop-place.bytes (omega arith)
    c.loop-place.invariant

pub returns : goal.returns
returns c =
    write_to_end c.args.number c.loop-place.rest c.loop-place.place c.loop-place.bytes (omega arith)
    (rw c.loop-place.auto.bytes c.requires) c.loop-place.invariant
