use Rattle.std.proofs.Common.{rules}
use Rattle.apfloat_arithmetic.proofs.order.is_nan.Goals as goal

pub returns-in-NaN : goal.returns-in-NaN
returns-in-NaN c = search rules steps 500000
