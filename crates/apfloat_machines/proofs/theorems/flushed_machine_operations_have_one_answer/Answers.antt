use Rattle.apfloat_machines.proofs.FlushedSettling.{flushed_machines_once}
use Rattle.apfloat_machines.proofs.theorems.flushed_machine_operations_have_one_answer.Goals as goal

pub returns : goal.returns
returns c = flushed_machines_once
