use Rattle.p3109_formats.proofs.Neighbours.{next_values}
use Rattle.p3109_formats.proofs.theorems.next_values_are_nearest.Goals as goal

pub returns : goal.returns
returns c = next_values
