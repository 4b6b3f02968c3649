use Rattle.apfloat_model.specs.declared.kinds.Category.TheVariants.{Normal}
use Rattle.apfloat_arithmetic.proofs.SumCases.{datum_is}
use Rattle.apfloat_arithmetic.proofs.fused.multiply_add.Goals as goal

pub returns-then-are_all_normal-clause-delivered : goal.returns-then-are_all_normal-clause-delivered
returns-then-are_all_normal-clause-delivered c =
    let s = c.args.shape in
    let all = c.are_all_normal.ensures.yes c.if-are_all_normal.true in
    rw (datum_is Normal s c.args.x all.0, datum_is Normal s c.args.y all.1, datum_is Normal s c.args.z all.2) assumption
