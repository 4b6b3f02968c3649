use Rattle.tests.proofs.Readings.{pair_read_together}
use Rattle.tests.proofs.pair_statuses.reading.Goals as goal

pub returns-clause-flags : goal.returns-clause-flags
returns-clause-flags c = pair_read_together c.args.mode c.args.text.now c.from_str_r.result c.from_str_r.ensures
