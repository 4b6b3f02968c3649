use Rattle.std.proofs.Common.{sym, ◌∙◌}
use Rattle.apfloat_arithmetic.proofs.Comparisons.{by_sides}
use Rattle.apfloat_arithmetic.proofs.order.compare.Goals as goal

pub returns : goal.returns
returns c =
    λ shape h k. rw (c.then.ensures, c.cmp.ensures, c.side.ensures shape h, c.side-2.ensures shape k)
    (by_sides _ _ _ (sym (c.is_nan.ensures shape) ∙ c.if-is_nan.false)
    (sym (c.is_nan-else-is_nan.ensures shape) ∙ c.if-is_nan-2.false) (c.compare_on_one_side.ensures shape h k))
