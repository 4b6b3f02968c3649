use Rattle.apfloat_machines.proofs.Once.{conversions_once}
use Rattle.apfloat_machines.proofs.theorems.conversions_have_one_answer.Goals as goal

pub returns : goal.returns
returns c = conversions_once
