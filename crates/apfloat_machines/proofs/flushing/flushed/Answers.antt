use Rattle.apfloat_ieee.specs.FlaggedTypes.{format_of}
use Rattle.apfloat_machines.proofs.FlushedAnswers.{are_flushed}
use Rattle.apfloat_machines.proofs.flushing.flushed.Goals as goal

pub returns-clause-operations : goal.returns-clause-operations
returns-clause-operations g c =
    are_flushed (format_of g.S.Flagged) c.args.flush c.args.answer c.zero_if_tiny.result
    g.S.Flagged.lawful.parameters.precision_low c.zero_if_tiny.ensures
