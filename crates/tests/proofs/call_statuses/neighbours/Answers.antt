use Rattle.rustc_apfloat.specs.FlaggedTypes.{format_of}
use Rattle.apfloat_model.proofs.rounding.FlagsTogether.{next_up_together, next_down_together}
use Rattle.tests.proofs.call_statuses.neighbours.Goals as goal

pub returns-clause-up : goal.returns-clause-up
returns-clause-up g c = next_up_together (format_of g.S.Flagged) c.args.x _ _ c.next_up.ensures.next

pub returns-clause-down : goal.returns-clause-down
returns-clause-down g c = next_down_together (format_of g.S.Flagged) c.args.x _ _ c.next_down.ensures
