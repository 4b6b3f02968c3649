use Rattle.std.proofs.Common.{◌*◌}
use Rattle.apfloat_arrays.specs.Entries.{AreLookedUp}
use Rattle.apfloat_arrays.proofs.entries.look_up_each.Given as goal

abbrev pub invariant-loop-number : goal.invariant-loop-number
invariant-loop-number g l =
    AreLookedUp (g.P.TablePlaces.place l.places) (g.P.TablePlaces.size l.places) l.width (l.number * 31) l.table
    l.output l.tally
