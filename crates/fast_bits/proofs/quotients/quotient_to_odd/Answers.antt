use Rattle.std.proofs.Common.{arith}
use Rattle.apfloat_model.proofs.general.Powers.{fits_longer}
use Rattle.fast_bits.proofs.quotients.quotient_to_odd.Goals as goal

pub quotient_if_right-requires-clause-narrow : goal.quotient_if_right-requires-clause-narrow
quotient_if_right-requires-clause-narrow c =
    fits_longer c.args.divisor c.args.precision 59 c.requires.divisor_fits (omega (arith, c.requires.short))
