use Rattle.std.proofs.Common.{◌-◌}
use Rattle.apfloat_arrays.proofs.short_singles.ShortPlanSinglesPlan.leads_past.Goals as goal

pub returns : goal.returns
returns c =
    let plan = c.args.self in
    (c.delivers_past.ensures (15 - plan.target.precision) plan.saturates plan.round plan.positive_is
    plan.negative_is).0
