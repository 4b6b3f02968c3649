use Rattle.std.proofs.lemmas.Nat.{pow_pos}
use Rattle.apfloat_conversions.proofs.Limits.{same_number}
use Rattle.apfloat_conversions.proofs.integers.to_unsigned.Goals as goal

pub number_to_unsigned-requires-clause-normal : goal.number_to_unsigned-requires-clause-normal
number_to_unsigned-requires-clause-normal c = rw c.in-Normal.is at c.requires.stored

pub number_to_unsigned-requires-clause-low : goal.number_to_unsigned-requires-clause-low
number_to_unsigned-requires-clause-low c = c.requires.low

pub number_to_unsigned-requires-clause-high : goal.number_to_unsigned-requires-clause-high
number_to_unsigned-requires-clause-high c = c.requires.high

pub limit_of-requires-clause-low : goal.limit_of-requires-clause-low
limit_of-requires-clause-low c = c.requires.low

pub limit_of-requires-clause-high : goal.limit_of-requires-clause-high
limit_of-requires-clause-high c = c.requires.high

pub returns-in-Normal-clause-whole : goal.returns-in-Normal-clause-whole
returns-in-Normal-clause-whole c = rw c.in-Normal.is c.number_to_unsigned.ensures.whole

pub returns-in-Normal-clause-fits : goal.returns-in-Normal-clause-fits
returns-in-Normal-clause-fits c = c.number_to_unsigned.ensures.fits

pub returns-in-Zero-clause-fits : goal.returns-in-Zero-clause-fits
returns-in-Zero-clause-fits c = rw c.and.ensures.value (pow_pos c.args.width)

pub returns-in-Infinity-clause-fits : goal.returns-in-Infinity-clause-fits
returns-in-Infinity-clause-fits c = rw (same_number _ _ c.out_of_range.ensures.number_is) c.limit_of.ensures.fits
