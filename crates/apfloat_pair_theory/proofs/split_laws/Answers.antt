use Rattle.apfloat_pair_theory.proofs.pairs.SplitLaws.{exact_split, lossless_split}
use Rattle.apfloat_pair_theory.proofs.split_laws.Goals as goal

pub returns-clause-exact : goal.returns-clause-exact
returns-clause-exact c = exact_split

pub returns-clause-lossless : goal.returns-clause-lossless
returns-clause-lossless c = lossless_split
