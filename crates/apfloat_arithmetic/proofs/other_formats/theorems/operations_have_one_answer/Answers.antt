use Rattle.apfloat_arithmetic.proofs.other_formats_lemmas.Once.{has_one_sum, has_one_difference, has_one_product}
use Rattle.apfloat_arithmetic.proofs.other_formats_lemmas.Once.{has_one_quotient, has_one_fused_sum, has_one_root}
use Rattle.apfloat_arithmetic.proofs.other_formats.theorems.operations_have_one_answer.Goals as goal

pub returns-clause-sum : goal.returns-clause-sum
returns-clause-sum c = has_one_sum

pub returns-clause-difference : goal.returns-clause-difference
returns-clause-difference c = has_one_difference

pub returns-clause-product : goal.returns-clause-product
returns-clause-product c = has_one_product

pub returns-clause-quotient : goal.returns-clause-quotient
returns-clause-quotient c = has_one_quotient

pub returns-clause-fused_sum : goal.returns-clause-fused_sum
returns-clause-fused_sum c = has_one_fused_sum

pub returns-clause-root : goal.returns-clause-root
returns-clause-root c = has_one_root
