use Rattle.small_formats.proofs.Points.{points_in_order}
use Rattle.small_formats.proofs.theorems.codes_are_in_order.Goals as goal

pub returns : goal.returns
returns c = points_in_order
