use Rattle.apfloat_digits.proofs.of_double_doubles_lemmas.ReadPairs.{read_has_decimal}
use Rattle.apfloat_digits.proofs.of_double_doubles.read_pairs_have_a_decimal.Goals as goal

pub returns : goal.returns
returns c = read_has_decimal
