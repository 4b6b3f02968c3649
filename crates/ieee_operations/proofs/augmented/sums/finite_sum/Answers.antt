use Rattle.std.proofs.Common.{sym, ◌∙◌}
use Rattle.apfloat_model.specs.rounding.Flags.{bits_of}
use Rattle.apfloat_ieee.specs.FlaggedTypes.{format_of}
use Rattle.ieee_operations.proofs.augmented_lemmas.{Cases.sum_swapped, Numbers.order_of_abs, Numbers.order_of_less}
use Rattle.ieee_operations.proofs.augmented.sums.finite_sum.Goals as goal

pub ordered_sum-requires-clause-order : goal.ordered_sum-requires-clause-order
ordered_sum-requires-clause-order g c =
    let h = sym c.lt.ensures ∙ c.if-lt.true in
    order_of_less (format_of g.S.Flagged) c.args.x c.args.y c.requires.left.is_finite c.requires.right.is_finite
    (rw (c.abs.ensures, c.abs-2.ensures) at h)

pub ordered_sum-requires-else-lt-clause-order : goal.ordered_sum-requires-else-lt-clause-order
ordered_sum-requires-else-lt-clause-order g c =
    let h = sym c.lt.ensures ∙ c.if-lt.false in
    order_of_abs (format_of g.S.Flagged) c.args.x c.args.y c.requires.left.is_finite c.requires.right.is_finite
    (rw (c.abs.ensures, c.abs-2.ensures) at h)

pub returns-then-lt : goal.returns-then-lt
returns-then-lt g c =
    sum_swapped (format_of g.S.Flagged) c.args.x c.args.y c.ordered_sum.result.value.head
    c.ordered_sum.result.value.tail (bits_of c.ordered_sum.result.status) c.requires.left.is_finite
    c.requires.right.is_finite c.ordered_sum.ensures
