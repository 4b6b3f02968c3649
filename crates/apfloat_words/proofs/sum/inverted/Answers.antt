use Rattle.std.proofs.Common.{rules}
use Rattle.apfloat_words.proofs.sum.inverted.Goals as goal

pub returns-in-LessThanHalf : goal.returns-in-LessThanHalf
returns-in-LessThanHalf c = search rules steps 500000
