use Rattle.fast_bits.proofs.RoundedIntegers.{in_wide_range}
use Rattle.fast_bits.proofs.integers.fits_signed.Goals as goal

pub returns-then-width-gt64 : goal.returns-then-width-gt64
returns-then-width-gt64 c =
    λ _. in_wide_range c.args.negative c.args.width c.args.magnitude c.if-width-gt64.true c.requires.small
