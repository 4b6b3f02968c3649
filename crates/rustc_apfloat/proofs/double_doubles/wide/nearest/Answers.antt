use Rattle.std.proofs.Common.{ap}
use Rattle.apfloat_model.specs.{rounding.Flags.bits_of, arithmetic.Remainders.IsNearestRemainder}
use Rattle.apfloat_pair_theory.specs.PairFormats.{wide}
use Rattle.apfloat_pair_theory.proofs.pairs.ExactPairs.{exact_nearest_remainder}
use Rattle.rustc_apfloat.proofs.double_doubles_lemmas.PairSteps.{wide_of_two}
use Rattle.rustc_apfloat.proofs.double_doubles.wide.nearest.Goals as goal

pub returns-clause-remainder : goal.returns-clause-remainder
returns-clause-remainder c =
    wide_of_two (IsNearestRemainder wide) c.args.x c.args.y c.joined.result c.joined-2.result c.ieee_rem.result.value
    (bits_of c.ieee_rem.result.status) c.split_answer.result.value _ c.joined.ensures c.joined-2.ensures
    c.ieee_rem.ensures (ap bits_of c.split_answer.ensures.status) c.split_answer.ensures.value

pub returns-clause-exact : goal.returns-clause-exact
returns-clause-exact c =
    exact_nearest_remainder c.args.x c.args.y c.split_answer.result.value
    (bits_of c.split_answer.result.status) (returns-clause-remainder c)
