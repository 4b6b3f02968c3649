use Rattle.apfloat_model.specs.rounding.Flags.{bits_of}
use Rattle.apfloat_pair_theory.proofs.sums.PairSumLaws.{error_free_sum, accurate_sum, plain_sum}
use Rattle.rustc_apfloat.proofs.double_doubles_lemmas.PairSteps.{sum_by_categories}
use Rattle.rustc_apfloat.proofs.double_doubles.sums.sum.Goals as goal

pub returns-clause-sum : goal.returns-clause-sum
returns-clause-sum c =
    sum_by_categories c.args.round c.args.x c.args.y _ _ _ _ c.category.ensures.category c.category-2.ensures.category
    c.sum_of_categories.ensures

pub returns-clause-error_free : goal.returns-clause-error_free
returns-clause-error_free c e =
    error_free_sum c.args.x c.args.y _ (bits_of c.sum_of_categories.result.status) c.category.ensures.high
    c.category-2.ensures.high (rw e at (returns-clause-sum c))

pub returns-clause-accurate : goal.returns-clause-accurate
returns-clause-accurate c e =
    accurate_sum c.args.x c.args.y _ (bits_of c.sum_of_categories.result.status) (rw e at (returns-clause-sum c))

pub returns-clause-plain : goal.returns-clause-plain
returns-clause-plain c e =
    plain_sum c.args.x c.args.y c.sum_of_categories.result.value _ (rw e at (returns-clause-sum c))
