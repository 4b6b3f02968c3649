use Rattle.apfloat_decimals.proofs.shortest_decimals.ReadBacks.{read_back}
use Rattle.apfloat_decimals.proofs.round_trips.shortest_reads_back.Goals as goal

pub returns : goal.returns
returns c = read_back
