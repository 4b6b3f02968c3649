use Rattle.small_formats.proofs.RandomCounts.{random_numbers_counted}
use Rattle.small_formats.proofs.theorems.random_numbers_are_counted.Goals as goal

pub returns : goal.returns
returns c = random_numbers_counted
