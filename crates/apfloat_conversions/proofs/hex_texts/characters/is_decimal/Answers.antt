use Rattle.std.proofs.Common.{rules}
use Rattle.apfloat_conversions.proofs.hex_texts.characters.is_decimal.Goals as goal

pub returns-in_default : goal.returns-in_default
returns-in_default c = search rules
