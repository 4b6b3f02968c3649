use Rattle.apfloat_arrays.proofs.TalliedResults.{none_looked_up}
use Rattle.apfloat_arrays.proofs.entries.look_up_each.Goals as goal

pub loop-number-init : goal.loop-number-init
loop-number-init g c =
    none_looked_up (g.P.TablePlaces.place c.args.places) (g.P.TablePlaces.size c.args.places) c.args.width
    c.args.table.now c.args.output.now
