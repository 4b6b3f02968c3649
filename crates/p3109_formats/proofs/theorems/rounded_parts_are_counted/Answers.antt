use Rattle.p3109_formats.proofs.RandomCodes.{rounded_parts_counted}
use Rattle.p3109_formats.proofs.theorems.rounded_parts_are_counted.Goals as goal

pub returns : goal.returns
returns c = rounded_parts_counted
