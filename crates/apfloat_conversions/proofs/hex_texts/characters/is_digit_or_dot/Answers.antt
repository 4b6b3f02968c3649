use Rattle.std.proofs.Common.{rules}
use Rattle.apfloat_conversions.proofs.hex_texts.characters.is_digit_or_dot.Goals as goal

pub returns-then-is_hexadecimal : goal.returns-then-is_hexadecimal
returns-then-is_hexadecimal c = search rules steps 1000000

pub returns-else-is_hexadecimal : goal.returns-else-is_hexadecimal
returns-else-is_hexadecimal c = search rules steps 1000000
