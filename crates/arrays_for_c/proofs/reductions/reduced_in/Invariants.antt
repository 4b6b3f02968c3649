use Rattle.std.proofs.Common.{◌≡◌, ◌-◌}
use Rattle.rustc_apfloat.specs.FlaggedTypes.{constants_of}
use Rattle.exact_reductions.specs.Reductions.{joined}
use Rattle.arrays_for_c.proofs.ExactSums.{rest}
use Rattle.arrays_for_c.proofs.reductions.reduced_in.Given as goal

abbrev pub invariant-loop-index : goal.invariant-loop-index
invariant-loop-index g l = record {
  terms : l.sum.terms ≡ l.index;
  total : joined l.sum (rest (constants_of g.S.Flagged) l.reduction l.width l.xs l.ys l.index (l.count - l.index))
      ≡ rest (constants_of g.S.Flagged) l.reduction l.width l.xs l.ys 0 l.count;
}
