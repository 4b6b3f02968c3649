use Rattle.rustc_apfloat.specs.{Sums.IsDifference, FlaggedTypes.format_of}
use Rattle.apfloat_model.proofs.rounding.{ModesAgree.difference_agrees, OutwardResults.difference_encloses}
use Rattle.tests.proofs.TwoModes.{but_for_zeros}
use Rattle.tests.proofs.two_modes.differences.Goals as goal

pub returns : goal.returns
returns g c =
    but_for_zeros (λ mode. IsDifference (format_of g.S.Flagged) mode c.args.x c.args.y)
    (difference_agrees (format_of g.S.Flagged) c.args.x c.args.y)
    (difference_encloses (format_of g.S.Flagged) c.args.x c.args.y)
    c.args.mode c.args.other _ _ c.sub_r.ensures.difference c.sub_r-2.ensures.difference
