use Rattle.std.proofs.Common.{◌∙◌}
use Rattle.apfloat_ieee.specs.FlaggedTypes.{format_of}
use Rattle.apfloat_machines.proofs.{FlushedSettling.are_flushed_and_settled, Settling.are_settled}
use Rattle.apfloat_machines.proofs.nans.settled.Goals as goal

pub returns-clause-operations : goal.returns-clause-operations
returns-clause-operations g c =
    are_settled (format_of g.S.Flagged) c.args.machine c.args.x c.args.y c.args.answer c.and.result
    (c.and.ensures.value ∙ c.with_nan.ensures) c.and.ensures.status

pub returns-clause-flushed : goal.returns-clause-flushed
returns-clause-flushed g c = λ infinite flush.
    are_flushed_and_settled (format_of g.S.Flagged) c.args.machine flush c.args.x c.args.y c.args.answer
    c.and.result (c.and.ensures.value ∙ c.with_nan.ensures) c.and.ensures.status infinite
