use Rattle.apfloat_digits.proofs.of_double_doubles_lemmas.PairShortest.{pair_shortest_once, text_read_back}
use Rattle.apfloat_digits.proofs.of_double_doubles_lemmas.PairShortest.{written_read_back}
use Rattle.apfloat_digits.proofs.of_double_doubles.pair_shortest_reads_back.Goals as goal

pub returns : goal.returns
returns c = record { once = pair_shortest_once; text = text_read_back; written = written_read_back }
