use Rattle.p3109_formats.proofs.OneAnswer.{code_picks}
use Rattle.p3109_formats.proofs.theorems.picks_of_codes_are_picks.Goals as goal

pub returns : goal.returns
returns c = code_picks
