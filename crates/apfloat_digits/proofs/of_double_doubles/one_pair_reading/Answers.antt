use Rattle.apfloat_digits.proofs.of_double_doubles_lemmas.OneReading.{pair_read_once}
use Rattle.apfloat_digits.proofs.of_double_doubles.one_pair_reading.Goals as goal

pub returns : goal.returns
returns c = pair_read_once
