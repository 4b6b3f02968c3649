use Rattle.apfloat_pair_theory.proofs.calls.PairFlagsTogether.{pair_sum_together, pair_difference_together}
use Rattle.apfloat_pair_theory.proofs.calls.PairFlagsTogether.{pair_product_together}
use Rattle.tests.proofs.pair_statuses.chains.Goals as goal

pub returns-clause-sum : goal.returns-clause-sum
returns-clause-sum c = pair_sum_together c.args.mode c.args.x c.args.y _ _ c.add_r.ensures.sum

pub returns-clause-difference : goal.returns-clause-difference
returns-clause-difference c = pair_difference_together c.args.mode c.args.x c.args.y _ _ c.sub_r.ensures.difference

pub returns-clause-product : goal.returns-clause-product
returns-clause-product c = pair_product_together c.args.mode c.args.x c.args.y _ _ c.mul_r.ensures.product
