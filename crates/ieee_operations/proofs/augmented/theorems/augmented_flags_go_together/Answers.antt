use Rattle.ieee_operations.proofs.augmented_lemmas.RaisedFlags.{each_together}
use Rattle.ieee_operations.proofs.augmented.theorems.augmented_flags_go_together.Goals as goal

pub returns-clause-sum : goal.returns-clause-sum
returns-clause-sum c = λ f. (each_together f).sum

pub returns-clause-difference : goal.returns-clause-difference
returns-clause-difference c = λ f. (each_together f).difference

pub returns-clause-product : goal.returns-clause-product
returns-clause-product c = λ f. (each_together f).product
