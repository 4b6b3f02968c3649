use Rattle.rustc_apfloat.specs.FlaggedTypes.{format_of}
use Rattle.apfloat_model.proofs.rounding.FlagsTogether.{conversion_together, round_to_integral_together}
use Rattle.tests.proofs.call_statuses.converted_and_integral.Goals as goal

pub returns-clause-converted : goal.returns-clause-converted
returns-clause-converted g c =
    conversion_together (format_of g.S.Flagged) (format_of g.T.Flagged) c.args.mode c.args.x _ _ _
    c.convert_r.ensures.converted

pub returns-clause-integral : goal.returns-clause-integral
returns-clause-integral g c =
    round_to_integral_together (format_of g.S.Flagged) c.args.mode c.args.x _ _ c.round_to_integral.ensures

pub returns-clause-converts : goal.returns-clause-converts
returns-clause-converts g c = (_, c.convert_r.ensures.converted)
