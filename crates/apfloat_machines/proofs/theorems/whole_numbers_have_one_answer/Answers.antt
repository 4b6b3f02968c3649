use Rattle.apfloat_machines.proofs.Once.{whole_numbers_once}
use Rattle.apfloat_machines.proofs.theorems.whole_numbers_have_one_answer.Goals as goal

pub returns : goal.returns
returns c = whole_numbers_once
