use Rattle.apfloat_pair_theory.proofs.calls.PairFlagsTogether.{pair_to_unsigned_together, pair_to_signed_together}
use Rattle.tests.proofs.pair_statuses.to_integers.Goals as goal

pub returns-clause-unsigned : goal.returns-clause-unsigned
returns-clause-unsigned c =
    pair_to_unsigned_together c.args.mode c.args.width c.args.x _ _ _ c.to_u128_r-unsigned.ensures.answer

pub returns-clause-signed : goal.returns-clause-signed
returns-clause-signed c = pair_to_signed_together c.args.mode c.args.width c.args.x _ _ _ c.to_i128_r.ensures

pub returns-clause-converts_unsigned : goal.returns-clause-converts_unsigned
returns-clause-converts_unsigned c = (_, c.to_u128_r-unsigned.ensures.answer)

pub returns-clause-converts_signed : goal.returns-clause-converts_signed
returns-clause-converts_signed c = (_, c.to_i128_r.ensures)
