use Rattle.apfloat_pair_theory.proofs.pairs.Joins.{joined_with_zero}
use Rattle.rustc_apfloat.proofs.double_doubles_lemmas.PairSteps.{joined_by_sum, joined_alone}
use Rattle.rustc_apfloat.proofs.double_doubles.join.joined.Goals as goal

pub returns-then-is_finite_non_zero : goal.returns-then-is_finite_non_zero
returns-then-is_finite_non_zero c =
    rw (← c.x.view_is)
    (joined_by_sum _ _ _ _ _ _ c.is_finite_non_zero.ensures c.if-is_finite_non_zero.true c.widened-high.ensures
    c.widened.ensures c.add.ensures)

pub returns-else-is_finite_non_zero : goal.returns-else-is_finite_non_zero
returns-else-is_finite_non_zero c =
    rw (← c.x.view_is)
    (joined_alone _ _ _ c.is_finite_non_zero.ensures c.if-is_finite_non_zero.false c.widened-high.ensures)

pub returns-then-is_zero : goal.returns-then-is_zero
returns-then-is_zero c =
    rw (← c.x.view_is)
    (joined_with_zero _ _ _ c.category.ensures.member c.is_zero.ensures c.if-is_zero.true c.widened-high.ensures)
