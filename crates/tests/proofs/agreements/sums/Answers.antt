use Rattle.std.proofs.Common.{ap, ◌∙◌}
use Rattle.rustc_apfloat.specs.declared.Round.TheVariants.{NearestTiesToEven}
use Rattle.tests.proofs.agreements.sums.Goals as goal

pub returns-clause-call : goal.returns-clause-call
returns-clause-call g c =
    let t = g.met.F.Float in
    let by_operator = t.add_law c.args.x c.args.y c.add.result c.add.ensures in
    (t.determined NearestTiesToEven).sum c.args.x c.args.y c.add.result c.add_r.result by_operator c.add_r.ensures

pub returns-clause-assigned : goal.returns-clause-assigned
returns-clause-assigned g c =
    let t = g.met.F.Float in
    let by_operator = t.add_law c.args.x c.args.y c.add.result c.add.ensures in
    let assigned = t.add_assign_law c.args.x c.args.y c.add_assign.new.self c.add_assign.ensures.after in
    let one = (t.determined NearestTiesToEven).sum c.args.x c.args.y assigned.0 c.add.result assigned.1 by_operator in
    assigned.2 ∙ ap (λ a. a.value) one
