use Rattle.apfloat_pair_theory.proofs.sums.DifferenceLaws.{error_free_difference, accurate_difference, plain_difference}
use Rattle.apfloat_pair_theory.proofs.difference_laws.Goals as goal

pub returns-clause-error_free : goal.returns-clause-error_free
returns-clause-error_free c = error_free_difference

pub returns-clause-accurate : goal.returns-clause-accurate
returns-clause-accurate c = accurate_difference

pub returns-clause-plain : goal.returns-clause-plain
returns-clause-plain c = plain_difference
