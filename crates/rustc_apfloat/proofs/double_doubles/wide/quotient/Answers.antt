use Rattle.std.proofs.Common.{ap}
use Rattle.apfloat_model.specs.{rounding.Flags.bits_of, arithmetic.Quotients.IsQuotient}
use Rattle.apfloat_pair_theory.specs.PairFormats.{wide}
use Rattle.apfloat_pair_theory.proofs.pairs.ExactPairs.{exact_quotient}
use Rattle.rustc_apfloat.proofs.double_doubles_lemmas.PairSteps.{wide_of_two}
use Rattle.rustc_apfloat.proofs.double_doubles.wide.quotient.Goals as goal

pub returns-clause-quotient : goal.returns-clause-quotient
returns-clause-quotient c =
    wide_of_two (IsQuotient wide c.args.round) c.args.x c.args.y c.joined.result c.joined-2.result c.div_r.result.value
    (bits_of c.div_r.result.status) c.split_answer.result.value _ c.joined.ensures c.joined-2.ensures c.div_r.ensures
    (ap bits_of c.split_answer.ensures.status) c.split_answer.ensures.value

pub returns-clause-exact : goal.returns-clause-exact
returns-clause-exact c =
    exact_quotient c.args.round c.args.x c.args.y c.split_answer.result.value
    (bits_of c.split_answer.result.status) (returns-clause-quotient c)
