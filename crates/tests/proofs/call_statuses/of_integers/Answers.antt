use Rattle.std.specs.Int.{w128}
use Rattle.std.proofs.Common.{to_z, of_z}
use Rattle.rustc_apfloat.specs.FlaggedTypes.{format_of}
use Rattle.apfloat_model.proofs.rounding.FlagsTogether.{from_unsigned_together, from_signed_together}
use Rattle.tests.proofs.call_statuses.of_integers.Goals as goal

pub returns-clause-unsigned : goal.returns-clause-unsigned
returns-clause-unsigned g c =
    from_unsigned_together (format_of g.S.Flagged) c.args.mode c.args.unsigned _ _ c.from_u128_r.ensures

pub returns-clause-signed : goal.returns-clause-signed
returns-clause-signed g c =
    from_signed_together (format_of g.S.Flagged) c.args.mode (to_z w128 (of_z w128 c.args.signed)) _ _
    c.from_i128_r.ensures
