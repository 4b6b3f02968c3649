use Rattle.rustc_apfloat.specs.{FusedSums.IsFusedSum, FlaggedTypes.format_of}
use Rattle.apfloat_model.proofs.rounding.{ModesAgree.fused_sum_agrees, OutwardResults.fused_sum_encloses}
use Rattle.tests.proofs.TwoModes.{but_for_zeros}
use Rattle.tests.proofs.two_modes.fused_sums.Goals as goal

pub returns : goal.returns
returns g c =
    but_for_zeros (λ mode. IsFusedSum (format_of g.S.Flagged) mode c.args.x c.args.y c.args.z)
    (fused_sum_agrees (format_of g.S.Flagged) c.args.x c.args.y c.args.z)
    (fused_sum_encloses (format_of g.S.Flagged) c.args.x c.args.y c.args.z)
    c.args.mode c.args.other _ _ c.mul_add_r.ensures c.mul_add_r-2.ensures
