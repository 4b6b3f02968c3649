use Rattle.apfloat_pair_theory.proofs.calls.PairFlagsTogether.{pair_quotient_together}
use Rattle.apfloat_pair_theory.proofs.calls.PairFlagsTogether.{pair_truncated_remainder_together}
use Rattle.apfloat_pair_theory.proofs.calls.PairFlagsTogether.{pair_nearest_remainder_together}
use Rattle.tests.proofs.pair_statuses.quotient_and_remainders.Goals as goal

pub returns-clause-quotient : goal.returns-clause-quotient
returns-clause-quotient c = pair_quotient_together c.args.mode c.args.x c.args.y _ _ c.div_r.ensures.quotient

pub returns-clause-truncated : goal.returns-clause-truncated
returns-clause-truncated c = pair_truncated_remainder_together c.args.x c.args.y _ _ c.c_fmod.ensures.remainder

pub returns-clause-nearest : goal.returns-clause-nearest
returns-clause-nearest c = pair_nearest_remainder_together c.args.x c.args.y _ _ c.ieee_rem.ensures.remainder
