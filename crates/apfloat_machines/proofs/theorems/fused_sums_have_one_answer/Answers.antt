use Rattle.apfloat_machines.proofs.Once.{fused_sums_once}
use Rattle.apfloat_machines.proofs.theorems.fused_sums_have_one_answer.Goals as goal

pub returns : goal.returns
returns c = fused_sums_once
