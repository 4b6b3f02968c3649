use Rattle.std.proofs.Common.{rules}
use Rattle.apfloat_words.proofs.shift.steps_between.Goals as goal

pub returns : goal.returns
returns c = search rules steps 500000
