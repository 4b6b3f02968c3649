use Rattle.apfloat_pair_theory.proofs.calls.PairFlagsTogether.{pair_next_up_together, pair_next_down_together}
use Rattle.apfloat_pair_theory.proofs.calls.PairFlagsTogether.{pair_round_to_integral_together}
use Rattle.tests.proofs.pair_statuses.neighbours_and_integral.Goals as goal

pub returns-clause-up : goal.returns-clause-up
returns-clause-up c = pair_next_up_together c.args.x _ _ c.next_up.ensures

pub returns-clause-down : goal.returns-clause-down
returns-clause-down c = pair_next_down_together c.args.x _ _ c.next_down.ensures

pub returns-clause-integral : goal.returns-clause-integral
returns-clause-integral c = pair_round_to_integral_together c.args.mode c.args.x _ _ c.round_to_integral.ensures
