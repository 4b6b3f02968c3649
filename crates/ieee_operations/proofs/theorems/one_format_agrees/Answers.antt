use Rattle.ieee_operations.proofs.OneFormat.{one_format}
use Rattle.ieee_operations.proofs.theorems.one_format_agrees.Goals as goal

pub returns : goal.returns
returns c = one_format
