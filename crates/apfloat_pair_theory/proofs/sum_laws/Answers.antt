use Rattle.apfloat_pair_theory.proofs.sums.PairSumLaws.{error_free_sum, accurate_sum, plain_sum}
use Rattle.apfloat_pair_theory.proofs.sum_laws.Goals as goal

pub returns-clause-error_free : goal.returns-clause-error_free
returns-clause-error_free c = error_free_sum

pub returns-clause-accurate : goal.returns-clause-accurate
returns-clause-accurate c = accurate_sum

pub returns-clause-plain : goal.returns-clause-plain
returns-clause-plain c = plain_sum
