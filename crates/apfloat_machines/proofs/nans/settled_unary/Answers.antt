use Rattle.std.proofs.Common.{◌∙◌}
use Rattle.apfloat_ieee.specs.FlaggedTypes.{format_of}
use Rattle.apfloat_machines.proofs.Settling.{are_settled_of_one}
use Rattle.apfloat_machines.proofs.nans.settled_unary.Goals as goal

pub returns-clause-operations : goal.returns-clause-operations
returns-clause-operations g c =
    are_settled_of_one (format_of g.S.Flagged) c.args.machine c.args.x c.args.answer c.and.result
    (c.and.ensures.value ∙ c.with_nan.ensures) c.and.ensures.status
