use Rattle.rustc_apfloat.specs.FlaggedTypes.{format_of}
use Rattle.apfloat_model.proofs.rounding.FlagsTogether.{root_together}
use Rattle.tests.proofs.call_statuses.root.Goals as goal

pub returns-clause-extracts : goal.returns-clause-extracts
returns-clause-extracts g c = c.sqrt_r.ensures.root

pub returns-clause-flags : goal.returns-clause-flags
returns-clause-flags g c = root_together (format_of g.S.Flagged) c.args.mode c.args.x _ _ c.sqrt_r.ensures.root
