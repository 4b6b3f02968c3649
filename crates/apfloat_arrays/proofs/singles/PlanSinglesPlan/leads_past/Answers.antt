use Rattle.apfloat_arrays.proofs.singles.PlanSinglesPlan.leads_past.Goals as goal

pub returns : goal.returns
returns c =
    let plan = c.args.self in
    (c.delivers_past.ensures 16 plan.saturates plan.round plan.positive_is plan.negative_is).0
