use Rattle.apfloat_machines.proofs.Once.{operations_once}
use Rattle.apfloat_machines.proofs.theorems.operations_have_one_answer.Goals as goal

pub returns : goal.returns
returns c = operations_once
