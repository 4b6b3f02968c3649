use Rattle.apfloat_pair_theory.proofs.calls.PairFlagsTogether.{pair_root_together}
use Rattle.tests.proofs.pair_statuses.root.Goals as goal

pub returns-clause-flags : goal.returns-clause-flags
returns-clause-flags c = pair_root_together c.args.mode c.args.x _ _ c.sqrt_r.ensures
