use Rattle.apfloat_conversions.proofs.Limits.{greatest_is}
use Rattle.apfloat_conversions.proofs.integers.greatest.Goals as goal

pub returns : goal.returns
returns c = greatest_is c.args.width c.requires.high
