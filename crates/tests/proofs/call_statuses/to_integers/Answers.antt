use Rattle.rustc_apfloat.specs.FlaggedTypes.{format_of}
use Rattle.apfloat_model.proofs.rounding.FlagsTogether.{to_unsigned_together, to_signed_together}
use Rattle.tests.proofs.call_statuses.to_integers.Goals as goal

pub returns-clause-unsigned : goal.returns-clause-unsigned
returns-clause-unsigned g c =
    to_unsigned_together (format_of g.S.Flagged) c.args.mode c.args.width c.args.x _ _ _
    c.to_u128_r-unsigned.ensures.answer

pub returns-clause-signed : goal.returns-clause-signed
returns-clause-signed g c =
    to_signed_together (format_of g.S.Flagged) c.args.mode c.args.width c.args.x _ _ _ c.to_i128_r.ensures

pub returns-clause-converts_unsigned : goal.returns-clause-converts_unsigned
returns-clause-converts_unsigned g c = (_, c.to_u128_r-unsigned.ensures.answer)

pub returns-clause-converts_signed : goal.returns-clause-converts_signed
returns-clause-converts_signed g c = (_, c.to_i128_r.ensures)
