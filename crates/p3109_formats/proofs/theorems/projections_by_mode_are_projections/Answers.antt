use Rattle.small_formats.proofs.CodePicks.{code_picks_by}
use Rattle.p3109_formats.proofs.OneAnswer.{projections_of_modes}
use Rattle.p3109_formats.proofs.theorems.projections_by_mode_are_projections.Goals as goal

pub returns-clause-conversions : goal.returns-clause-conversions
returns-clause-conversions c = projections_of_modes

pub returns-clause-picks : goal.returns-clause-picks
returns-clause-picks c = code_picks_by
