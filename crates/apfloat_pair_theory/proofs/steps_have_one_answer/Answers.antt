-- Each clause follows from the chain of its operation, which is sound.
use Rattle.std.proofs.Common.{lit<}
use Rattle.apfloat_model.specs.declared.kinds.Round.{Round}
use Rattle.apfloat_model.specs.rounding.Steps.{Steps, Leads, AreSound}
use Rattle.apfloat_model.proofs.Steps.{leads_once, leads_somewhere}
use Rattle.apfloat_pair_theory.specs.{PairFormats.double, Pairs.Pair, Pairs.negated_pair, PairSums.pair_sum}
use Rattle.apfloat_pair_theory.specs.{PairProducts.pair_product, PairAnswers.HasOneAnswer}
use Rattle.apfloat_pair_theory.proofs.{sums.SumsSound.pair_sum_sound, products.ProductsSound.pair_product_sound}
use Rattle.apfloat_pair_theory.proofs.steps_have_one_answer.Goals as goal

one_answer : (mode : Round) (steps : Steps Pair) → AreSound steps → HasOneAnswer (Leads double mode steps)
one_answer mode steps sound = record {
  exists = leads_somewhere double mode steps (lit< tt) sound;
  once = leads_once double mode steps;
}

pub returns-clause-sum : goal.returns-clause-sum
returns-clause-sum c mode x y = one_answer mode (pair_sum x y) (pair_sum_sound x y)

pub returns-clause-difference : goal.returns-clause-difference
returns-clause-difference c mode x y = one_answer mode (pair_sum x (negated_pair y)) (pair_sum_sound x (negated_pair y))

pub returns-clause-product : goal.returns-clause-product
returns-clause-product c mode x y = one_answer mode (pair_product x y) (pair_product_sound x y)
