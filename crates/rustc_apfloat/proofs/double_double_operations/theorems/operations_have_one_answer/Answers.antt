use Rattle.rustc_apfloat.proofs.double_double_operations_lemmas.Operations.{one_fused_sum, one_from_format}
use Rattle.rustc_apfloat.proofs.double_double_operations_lemmas.Operations.{one_to_format}
use Rattle.rustc_apfloat.proofs.double_double_operations.theorems.operations_have_one_answer.Goals as goal

pub returns-clause-fused_sum : goal.returns-clause-fused_sum
returns-clause-fused_sum c = one_fused_sum

pub returns-clause-from_format : goal.returns-clause-from_format
returns-clause-from_format c = one_from_format

pub returns-clause-to_format : goal.returns-clause-to_format
returns-clause-to_format c = one_to_format c.operations_have_one_answer.ensures.sum
