use Rattle.apfloat_machines.proofs.RaisedFlags.{raise_together, raise_together_flushed}
use Rattle.apfloat_machines.proofs.theorems.flags_go_together.Goals as goal

pub returns-clause-plain : goal.returns-clause-plain
returns-clause-plain c = raise_together

pub returns-clause-flushed : goal.returns-clause-flushed
returns-clause-flushed c = raise_together_flushed
