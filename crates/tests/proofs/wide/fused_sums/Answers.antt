use Rattle.rustc_apfloat.specs.{FlaggedTypes.format_of, FusedSums.IsFusedSum}
use Rattle.apfloat_model.proofs.{Once.fused_sum_once, Determined.gives_once}
use Rattle.tests.proofs.wide.fused_sums.Goals as goal

pub returns : goal.returns
returns g c =
    let format = format_of g.S.Flagged in
    gives_once (IsFusedSum format c.args.mode c.args.x c.args.y c.args.addend)
    (fused_sum_once format c.args.mode c.args.x c.args.y c.args.addend) c.wide_mul_add_r.result
    c.mul_add_r.result c.wide_mul_add_r.ensures c.mul_add_r.ensures
