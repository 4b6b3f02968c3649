use Rattle.ieee_operations.proofs.augmented_lemmas.AugmentedOnce.{products_are_exact}
use Rattle.ieee_operations.proofs.augmented.theorems.augmented_products_are_exact.Goals as goal

pub returns : goal.returns
returns c = products_are_exact
