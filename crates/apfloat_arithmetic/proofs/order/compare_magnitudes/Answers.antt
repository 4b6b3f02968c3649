use Rattle.apfloat_arithmetic.proofs.Comparisons.{exponents_first}
use Rattle.apfloat_arithmetic.proofs.order.compare_magnitudes.Goals as goal

pub returns : goal.returns
returns c =
    λ shape m n. rw (c.then.ensures, c.cmp.ensures, c.cmp-2.ensures)
    (exponents_first shape c.args.x.significand c.args.x.exponent c.args.y.significand c.args.y.exponent m n)
