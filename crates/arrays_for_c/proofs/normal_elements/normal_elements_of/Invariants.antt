use Rattle.arrays_for_c.specs.Arrays.{AreElements}
use Rattle.arrays_for_c.proofs.normal_elements.normal_elements_of.Given as goal

abbrev pub invariant-loop-index : goal.invariant-loop-index
invariant-loop-index g l = AreElements l.calls.map l.xs l.ys l.zs l.index l.output l.counted
