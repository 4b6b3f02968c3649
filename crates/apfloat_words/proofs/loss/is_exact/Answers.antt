use Rattle.std.proofs.Common.{rules}
use Rattle.apfloat_words.proofs.loss.is_exact.Goals as goal

pub returns-in-ExactlyHalf-clause-yes : goal.returns-in-ExactlyHalf-clause-yes
returns-in-ExactlyHalf-clause-yes c = search rules steps 500000

pub returns-in-ExactlyHalf-clause-no : goal.returns-in-ExactlyHalf-clause-no
returns-in-ExactlyHalf-clause-no c = search rules steps 500000
