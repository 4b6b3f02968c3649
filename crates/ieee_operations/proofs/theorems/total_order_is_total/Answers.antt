use Rattle.ieee_operations.proofs.TotalOrderLaws.{total_laws}
use Rattle.ieee_operations.proofs.theorems.total_order_is_total.Goals as goal

pub returns : goal.returns
returns c = total_laws
