use Rattle.apfloat_digits.proofs.hexadecimal_lemmas.Roundings.{one_text}
use Rattle.apfloat_digits.proofs.hexadecimal.rounded.rounded_hex_once.Goals as goal

pub returns : goal.returns
returns c = one_text
