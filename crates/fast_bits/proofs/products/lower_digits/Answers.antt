use Rattle.std.proofs.Common.{arith}
use Rattle.fast_bits.proofs.Operands.{lower_fits}
use Rattle.fast_bits.proofs.products.lower_digits.Goals as goal

pub overflow_cast-result : goal.overflow_cast-result
overflow_cast-result c =
    rw c.power_of_two.ensures (omega (arith, lower_fits c.args.precision c.args.product c.requires))
