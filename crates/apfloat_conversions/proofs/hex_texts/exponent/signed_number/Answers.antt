use Rattle.std.proofs.Common.{rules}
use Rattle.apfloat_conversions.proofs.hex_texts.exponent.signed_number.Goals as goal

pub returns-then-is_minus : goal.returns-then-is_minus
returns-then-is_minus c = search rules steps 1000000
