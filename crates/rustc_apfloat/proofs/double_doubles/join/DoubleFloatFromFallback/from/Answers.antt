use Rattle.apfloat_pair_theory.proofs.pairs.SplitLaws.{exact_split}
use Rattle.rustc_apfloat.proofs.double_doubles.join.DoubleFloatFromFallback.from.Goals as goal

pub returns-clause-exact : goal.returns-clause-exact
returns-clause-exact c = exact_split c.args.x c.split.result c.split.ensures
