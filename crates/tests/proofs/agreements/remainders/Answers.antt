use Rattle.rustc_apfloat.specs.declared.Round.TheVariants.{NearestTiesToEven}
use Rattle.tests.proofs.agreements.remainders.Goals as goal

pub returns : goal.returns
returns g c =
    let t = g.met.F.Float in
    let by_operator = t.rem_law c.args.x c.args.y c.rem.result c.rem.ensures in
    (t.determined NearestTiesToEven).remainder c.args.x c.args.y c.rem.result c.c_fmod.result by_operator
    c.c_fmod.ensures
