use Rattle.ieee_operations.proofs.augmented_lemmas.AugmentedOnce.{each_once}
use Rattle.ieee_operations.proofs.augmented.theorems.augmented_products_have_one_answer.Goals as goal

pub returns : goal.returns
returns c = λ f. (each_once f).product
