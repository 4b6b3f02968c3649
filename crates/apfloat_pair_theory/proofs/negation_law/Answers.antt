use Rattle.apfloat_pair_theory.proofs.pairs.Negated.{negated_pair_twice}
use Rattle.apfloat_pair_theory.proofs.negation_law.Goals as goal

pub returns : goal.returns
returns c = negated_pair_twice
