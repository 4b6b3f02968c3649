use Rattle.apfloat_pair_theory.proofs.pairs.PairBits.{pair_read_back, pair_written_back, pair_encoded_once}
use Rattle.apfloat_pair_theory.proofs.bits_laws.Goals as goal

pub returns-clause-read_back : goal.returns-clause-read_back
returns-clause-read_back c = pair_read_back

pub returns-clause-written_back : goal.returns-clause-written_back
returns-clause-written_back c = pair_written_back

pub returns-clause-once : goal.returns-clause-once
returns-clause-once c = pair_encoded_once
