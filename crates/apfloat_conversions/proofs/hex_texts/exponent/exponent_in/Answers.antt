use Rattle.std.proofs.Common.{rules}
use Rattle.apfloat_conversions.proofs.hex_texts.exponent.exponent_in.Goals as goal

pub returns-in-empty : goal.returns-in-empty
returns-in-empty c = search rules steps 1000000

pub returns-in-empty-2 : goal.returns-in-empty-2
returns-in-empty-2 c = search rules steps 1000000
