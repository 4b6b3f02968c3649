use Rattle.rustc_apfloat.specs.FlaggedTypes.{format_of}
use Rattle.tests.proofs.Readings.{read_together}
use Rattle.tests.proofs.call_statuses.reading.Goals as goal

pub returns-clause-flags : goal.returns-clause-flags
returns-clause-flags g c =
    read_together (format_of g.S.Flagged) c.args.mode c.args.text.now c.from_str_r.result c.from_str_r.ensures
