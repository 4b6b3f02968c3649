use Rattle.apfloat_ieee.specs.FlaggedTypes.{format_of}
use Rattle.ieee_operations.proofs.augmented_lemmas.Numbers.{negated_in}
use Rattle.ieee_operations.proofs.augmented.sums.augmented_subtract.Goals as goal

pub finite_sum-requires-clause-right : goal.finite_sum-requires-clause-right
finite_sum-requires-clause-right g c =
    rw c.neg.ensures (negated_in (format_of g.S.Flagged) c.args.y
    (c.is_number-then-is_number.ensures.yes c.if-is_number-2.true))
