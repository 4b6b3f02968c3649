use Rattle.apfloat_machines.proofs.FlushedAnswers.{flushed_once}
use Rattle.apfloat_machines.proofs.theorems.flushed_operations_have_one_answer.Goals as goal

pub returns : goal.returns
returns c = flushed_once
