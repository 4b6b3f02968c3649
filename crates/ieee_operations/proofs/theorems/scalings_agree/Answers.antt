use Rattle.ieee_operations.proofs.Logarithms.{scaled_alike}
use Rattle.ieee_operations.proofs.theorems.scalings_agree.Goals as goal

pub returns : goal.returns
returns c = scaled_alike
