use Rattle.std.proofs.Common.{refl}
use Rattle.apfloat_arrays.proofs.ConvertedLanes.{plan_answers}
use Rattle.apfloat_arrays.proofs.short_singles.ShortPlanSinglesPlan.convert.Goals as goal

pub returns-clause-converted : goal.returns-clause-converted
returns-clause-converted c = λ overflow from to mode word is_single is_plan taken.
    let plan = c.args.self in
    plan_answers overflow from to mode plan.target plan.saturates plan.round word word c.convert_half.result is_plan
    refl (c.convert_half.ensures.converted word _ _ taken is_single)
