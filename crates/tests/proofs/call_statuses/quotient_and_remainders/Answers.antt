use Rattle.rustc_apfloat.specs.{FlaggedTypes.format_of, Remainders.truncated_quotient, Remainders.nearest_quotient}
use Rattle.apfloat_model.proofs.rounding.FlagsTogether.{quotient_together, remainder_together}
use Rattle.tests.proofs.call_statuses.quotient_and_remainders.Goals as goal

pub returns-clause-quotient : goal.returns-clause-quotient
returns-clause-quotient g c =
    quotient_together (format_of g.S.Flagged) c.args.mode c.args.x c.args.y _ _ c.div_r.ensures

pub returns-clause-truncated : goal.returns-clause-truncated
returns-clause-truncated g c =
    remainder_together (format_of g.S.Flagged) truncated_quotient c.args.x c.args.y _ _ c.c_fmod.ensures

pub returns-clause-nearest : goal.returns-clause-nearest
returns-clause-nearest g c =
    remainder_together (format_of g.S.Flagged) nearest_quotient c.args.x c.args.y _ _ c.ieee_rem.ensures
