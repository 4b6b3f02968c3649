use Rattle.p3109_formats.proofs.Codes.{one_in_the_middle}
use Rattle.p3109_formats.proofs.theorems.one_is_in_the_middle.Goals as goal

pub returns : goal.returns
returns c = one_in_the_middle
