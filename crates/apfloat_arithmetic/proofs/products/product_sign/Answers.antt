use Rattle.std.proofs.Common.{rules}
use Rattle.apfloat_arithmetic.proofs.products.product_sign.Goals as goal

pub returns-then-left : goal.returns-then-left
returns-then-left c = search rules steps 500000
