use Rattle.small_formats.proofs.{ModesOnce.into_of_model, RandomCounts.picks_of_model}
use Rattle.small_formats.proofs.theorems.picks_are_those_of_the_model.Goals as goal

pub returns-clause-picks : goal.returns-clause-picks
returns-clause-picks c = picks_of_model

pub returns-clause-conversions : goal.returns-clause-conversions
returns-clause-conversions c = into_of_model
