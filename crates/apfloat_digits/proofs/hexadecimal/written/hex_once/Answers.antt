use Rattle.apfloat_digits.proofs.hexadecimal_lemmas.ReadTexts.{one_text}
use Rattle.apfloat_digits.proofs.hexadecimal.written.hex_once.Goals as goal

pub returns : goal.returns
returns c = one_text
