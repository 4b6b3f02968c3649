use Rattle.apfloat_model.specs.rounding.Flags.{bits_of}
use Rattle.apfloat_pair_theory.proofs.sums.DifferenceLaws.{error_free_difference, accurate_difference, plain_difference}
use Rattle.rustc_apfloat.proofs.double_doubles_lemmas.PairSteps.{difference_by_negation}
use Rattle.rustc_apfloat.proofs.double_doubles.sums.difference.Goals as goal

pub returns-clause-difference : goal.returns-clause-difference
returns-clause-difference c =
    difference_by_negation c.args.round c.args.x c.args.y _ _ _ c.negation.ensures c.sum.ensures.sum

pub returns-clause-error_free : goal.returns-clause-error_free
returns-clause-error_free c e =
    error_free_difference c.args.x c.args.y _ (bits_of c.sum.result.status) c.category.ensures.high
    c.category-2.ensures.high (rw e at (returns-clause-difference c))

pub returns-clause-accurate : goal.returns-clause-accurate
returns-clause-accurate c e =
    accurate_difference c.args.x c.args.y _ (bits_of c.sum.result.status) (rw e at (returns-clause-difference c))

pub returns-clause-plain : goal.returns-clause-plain
returns-clause-plain c e =
    plain_difference c.args.x c.args.y c.sum.result.value _ (rw e at (returns-clause-difference c))
