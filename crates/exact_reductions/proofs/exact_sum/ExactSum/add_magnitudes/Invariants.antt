use Rattle.std.proofs.Common.{drop}
use Rattle.apfloat_ieee.specs.FlaggedTypes.{format_of}
use Rattle.exact_reductions.specs.Reductions.{tally, magnitude_terms}
use Rattle.exact_reductions.proofs.Tallies.{IsUnderWay}
use Rattle.exact_reductions.proofs.exact_sum.ExactSum.add_magnitudes.Given as goal

abbrev pub invariant-loop-i : goal.invariant-loop-i
invariant-loop-i g l =
    IsUnderWay l.fn.self l.self (tally (magnitude_terms (format_of g.S.Flagged) l.x))
    (tally (magnitude_terms (format_of g.S.Flagged) (drop l.i l.x))) l.i
