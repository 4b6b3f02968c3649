use Rattle.apfloat_arrays.proofs.WidthBounds.{width_room}
use Rattle.apfloat_arrays.proofs.widths.width.Goals as goal

pub returns : goal.returns
returns c = let room = width_room c.args.format c.args.extended in
    record { is = c.run.ensures; least = rw c.run.ensures room.least; greatest = rw c.run.ensures room.greatest }
