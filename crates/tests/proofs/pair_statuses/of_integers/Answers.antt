use Rattle.std.specs.Int.{w128}
use Rattle.std.proofs.Common.{to_z, of_z}
use Rattle.apfloat_pair_theory.proofs.calls.PairFlagsTogether.{pair_from_unsigned_together, pair_from_signed_together}
use Rattle.tests.proofs.pair_statuses.of_integers.Goals as goal

pub returns-clause-unsigned : goal.returns-clause-unsigned
returns-clause-unsigned c = pair_from_unsigned_together c.args.mode c.args.unsigned _ _ c.from_u128_r.ensures

pub returns-clause-signed : goal.returns-clause-signed
returns-clause-signed c =
    pair_from_signed_together c.args.mode (to_z w128 (of_z w128 c.args.signed)) _ _ c.from_i128_r.ensures
