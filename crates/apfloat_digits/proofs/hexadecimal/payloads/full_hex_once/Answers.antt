use Rattle.apfloat_digits.proofs.hexadecimal_lemmas.NanPayloads.{one_full}
use Rattle.apfloat_digits.proofs.hexadecimal.payloads.full_hex_once.Goals as goal

pub returns : goal.returns
returns c = one_full
