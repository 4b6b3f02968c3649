use Rattle.ieee_operations.proofs.augmented_lemmas.AugmentedOnce.{sums_are_exact}
use Rattle.ieee_operations.proofs.augmented.theorems.augmented_sums_are_exact.Goals as goal

pub returns : goal.returns
returns c = sums_are_exact
