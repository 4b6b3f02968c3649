use Rattle.std.proofs.Common.{rules}
use Rattle.apfloat_rounding.proofs.nans.payload_mask.Goals as goal

pub returns-in-IEEE754 : goal.returns-in-IEEE754
returns-in-IEEE754 c = search rules steps 500000
