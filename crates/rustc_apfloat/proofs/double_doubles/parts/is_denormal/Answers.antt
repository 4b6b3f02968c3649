use Rattle.rustc_apfloat.proofs.double_doubles_lemmas.PairSteps.{denormal_at_sum}
use Rattle.rustc_apfloat.proofs.double_doubles.parts.is_denormal.Goals as goal

pub returns-else-is_denormal : goal.returns-else-is_denormal
returns-else-is_denormal c =
    rw (← c.x.view_is)
    (denormal_at_sum _ _ _ _ _ _ c.is_finite_non_zero.ensures c.if-is_finite_non_zero.true c.is_denormal.ensures
    c.if-is_denormal.false c.add.ensures c.ne.ensures)
