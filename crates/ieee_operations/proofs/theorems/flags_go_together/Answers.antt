use Rattle.ieee_operations.proofs.RaisedFlags.{raise_together}
use Rattle.ieee_operations.proofs.theorems.flags_go_together.Goals as goal

pub returns : goal.returns
returns c = raise_together
