use Rattle.std.specs.Prelude.{Bool}
use Rattle.rustc_apfloat.specs.{Conversions.IsConversion, TwoModes.IsOkOrOfZero, FlaggedTypes.format_of}
use Rattle.apfloat_model.proofs.rounding.{ModesAgree.conversion_agrees, OutwardResults.conversion_encloses}
use Rattle.tests.proofs.TwoModes.{in_modes}
use Rattle.tests.proofs.two_modes.conversions.Goals as goal

pub returns : goal.returns
returns g c =
    in_modes (IsOkOrOfZero c.args.x)
    (λ mode value status. (loses : Bool)
    × IsConversion (format_of g.S.Flagged) (format_of g.T.Flagged) mode c.args.x value status loses)
    (conversion_agrees (format_of g.S.Flagged) (format_of g.T.Flagged) c.args.x)
    (conversion_encloses (format_of g.S.Flagged) (format_of g.T.Flagged) c.args.x) c.args.mode c.args.other _ _
    (_, c.convert_r-one.ensures.converted) (_, c.convert_r.ensures.converted)
