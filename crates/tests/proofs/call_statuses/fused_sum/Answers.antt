use Rattle.rustc_apfloat.specs.FlaggedTypes.{format_of}
use Rattle.apfloat_model.proofs.rounding.FlagsTogether.{fused_sum_together}
use Rattle.tests.proofs.call_statuses.fused_sum.Goals as goal

pub returns-clause-flags : goal.returns-clause-flags
returns-clause-flags g c =
    fused_sum_together (format_of g.S.Flagged) c.args.mode c.args.x c.args.y c.args.z _ _ c.mul_add_r.ensures
