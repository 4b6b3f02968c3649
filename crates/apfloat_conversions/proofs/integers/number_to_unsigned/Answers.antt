use Rattle.std.proofs.Common.{arith}
use Rattle.apfloat_rounding.specs.{Shapes.format_at, Stored.quanta_at}
use Rattle.apfloat_rounding.proofs.StoredBack.{quanta_some}
use Rattle.apfloat_conversions.proofs.Limits.{limited_unsigned}
use Rattle.apfloat_conversions.proofs.integers.number_to_unsigned.Goals as goal

pub limit_of-requires-clause-low : goal.limit_of-requires-clause-low
limit_of-requires-clause-low c = c.requires.low

pub limit_of-requires-clause-high : goal.limit_of-requires-clause-high
limit_of-requires-clause-high c = c.requires.high

pub magnitude_within-requires : goal.magnitude_within-requires
magnitude_within-requires c = c.requires.normal

pub returns-clause-whole : goal.returns-clause-whole
returns-clause-whole c =
    let s = c.args.shape in
    limited_unsigned (format_at s) c.args.round c.args.width c.args.x.negative
    (quanta_at s.min_exp c.args.x.significand c.args.x.exponent) _
    (quanta_some s c.args.x.significand c.args.x.exponent c.requires.normal)
    (rw c.limit_of.ensures.value at c.magnitude_within.ensures.limited)

pub returns-clause-fits : goal.returns-clause-fits
returns-clause-fits c = omega (arith, c.magnitude_within.ensures.fits, c.limit_of.ensures.fits)
