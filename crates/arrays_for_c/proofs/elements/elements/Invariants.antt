use Rattle.arrays_for_c.specs.Arrays.{AreElements}
use Rattle.arrays_for_c.proofs.elements.elements.Given as goal

abbrev pub invariant-loop-index : goal.invariant-loop-index
invariant-loop-index g l = AreElements (g.C.ElementCalls.map l.calls) l.xs l.ys l.zs l.index l.output l.counted
