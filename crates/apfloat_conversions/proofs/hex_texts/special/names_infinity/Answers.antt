use Rattle.std.proofs.Common.{rules}
use Rattle.apfloat_conversions.proofs.hex_texts.special.names_infinity.Goals as goal

pub returns-in-Plus : goal.returns-in-Plus
returns-in-Plus c = search rules steps 1000000
