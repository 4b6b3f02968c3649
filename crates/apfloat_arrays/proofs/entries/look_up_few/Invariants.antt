use Rattle.apfloat_arrays.proofs.TalliedResults.{AreLookedUpSince}
use Rattle.apfloat_arrays.proofs.entries.look_up_few.Given as goal

abbrev pub invariant-loop-index : goal.invariant-loop-index
invariant-loop-index g l =
    AreLookedUpSince (g.P.TablePlaces.place l.places) (g.P.TablePlaces.size l.places) l.width l.first l.index l.table
    l.output l.tally l.packed
