use Rattle.std.proofs.Common.{◌*◌, arith}
use Rattle.apfloat_model.proofs.rounding.KeptDigits.{fits_shifted, full_shifted}
use Rattle.fast_bits.proofs.fused.raised_addend.Goals as goal

pub returns-clause-fits : goal.returns-clause-fits
returns-clause-fits c =
    let p = c.args.precision in
    rw c.power_of_two.ensures
    (fits_shifted c.args.significand p p (2 * p) c.requires.fits (omega arith))

pub returns-clause-full : goal.returns-clause-full
returns-clause-full c =
    let p = c.args.precision in
    rw c.power_of_two.ensures
    (full_shifted c.args.significand p p (2 * p) c.requires.some (λ _. c.requires.full) (omega arith))
