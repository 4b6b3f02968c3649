use Rattle.p3109_formats.proofs.RandomCodes.{random_codes_counted}
use Rattle.p3109_formats.proofs.theorems.random_codes_are_counted.Goals as goal

pub returns : goal.returns
returns c = random_codes_counted
