use Rattle.apfloat_pair_theory.proofs.pairs.ExactPairs.{exact_quotient, exact_truncated_remainder}
use Rattle.apfloat_pair_theory.proofs.pairs.ExactPairs.{exact_nearest_remainder}
use Rattle.apfloat_pair_theory.proofs.quotient_laws.Goals as goal

pub returns-clause-quotient : goal.returns-clause-quotient
returns-clause-quotient c = exact_quotient

pub returns-clause-truncated_remainder : goal.returns-clause-truncated_remainder
returns-clause-truncated_remainder c = exact_truncated_remainder

pub returns-clause-nearest_remainder : goal.returns-clause-nearest_remainder
returns-clause-nearest_remainder c = exact_nearest_remainder
