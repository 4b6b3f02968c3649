use Rattle.rustc_apfloat.specs.{Quotients.IsQuotient, TwoModes.IsOkOrOfZero, FlaggedTypes.format_of}
use Rattle.apfloat_model.proofs.rounding.{ModesAgree.quotient_agrees, OutwardResults.quotient_encloses}
use Rattle.tests.proofs.TwoModes.{in_modes}
use Rattle.tests.proofs.two_modes.quotients.Goals as goal

pub returns : goal.returns
returns g c =
    in_modes (IsOkOrOfZero c.args.y) (λ mode. IsQuotient (format_of g.S.Flagged) mode c.args.x c.args.y)
    (quotient_agrees (format_of g.S.Flagged) c.args.x c.args.y)
    (quotient_encloses (format_of g.S.Flagged) c.args.x c.args.y)
    c.args.mode c.args.other _ _ c.div_r.ensures c.div_r-2.ensures
