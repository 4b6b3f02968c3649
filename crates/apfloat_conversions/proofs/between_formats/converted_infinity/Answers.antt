use Rattle.std.proofs.Common.{rules}
use Rattle.apfloat_conversions.proofs.between_formats.converted_infinity.Goals as goal

pub returns-clause-converted : goal.returns-clause-converted
returns-clause-converted c = search rules steps 500000
