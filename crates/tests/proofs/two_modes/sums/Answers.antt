use Rattle.rustc_apfloat.specs.{Sums.IsSum, FlaggedTypes.format_of}
use Rattle.apfloat_model.proofs.rounding.{ModesAgree.sum_agrees, OutwardResults.sum_encloses}
use Rattle.tests.proofs.TwoModes.{but_for_zeros}
use Rattle.tests.proofs.two_modes.sums.Goals as goal

pub returns : goal.returns
returns g c =
    but_for_zeros (λ mode. IsSum (format_of g.S.Flagged) mode c.args.x c.args.y)
    (sum_agrees (format_of g.S.Flagged) c.args.x c.args.y) (sum_encloses (format_of g.S.Flagged) c.args.x c.args.y)
    c.args.mode c.args.other _ _ c.add_r.ensures.sum c.add_r-2.ensures.sum
