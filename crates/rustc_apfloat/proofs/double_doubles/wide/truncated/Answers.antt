use Rattle.std.proofs.Common.{ap}
use Rattle.apfloat_model.specs.{rounding.Flags.bits_of, arithmetic.Remainders.IsTruncatedRemainder}
use Rattle.apfloat_pair_theory.specs.PairFormats.{wide}
use Rattle.apfloat_pair_theory.proofs.pairs.ExactPairs.{exact_truncated_remainder}
use Rattle.rustc_apfloat.proofs.double_doubles_lemmas.PairSteps.{wide_of_two}
use Rattle.rustc_apfloat.proofs.double_doubles.wide.truncated.Goals as goal

pub returns-clause-remainder : goal.returns-clause-remainder
returns-clause-remainder c =
    wide_of_two (IsTruncatedRemainder wide) c.args.x c.args.y c.joined.result c.joined-2.result c.c_fmod.result.value
    (bits_of c.c_fmod.result.status) c.split_answer.result.value _ c.joined.ensures c.joined-2.ensures c.c_fmod.ensures
    (ap bits_of c.split_answer.ensures.status) c.split_answer.ensures.value

pub returns-clause-exact : goal.returns-clause-exact
returns-clause-exact c =
    exact_truncated_remainder c.args.x c.args.y c.split_answer.result.value
    (bits_of c.split_answer.result.status) (returns-clause-remainder c)
