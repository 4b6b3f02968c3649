use Rattle.apfloat_digits.proofs.decimal_lemmas.OneCount.{one_answer}
use Rattle.apfloat_digits.proofs.decimal.counted.digit_count_once.Goals as goal

pub returns : goal.returns
returns c = one_answer
