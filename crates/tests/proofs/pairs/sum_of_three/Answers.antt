use Rattle.tests.proofs.Summands.{three_closely}
use Rattle.tests.proofs.pairs.sum_of_three.Goals as goal

pub returns : goal.returns
returns c =
    three_closely c.args.x c.args.y c.args.z _ _ _ c.alone.ensures.pair c.alone.ensures.member
    c.requires.first c.requires.second c.requires.third c.exact_sum.ensures c.add.ensures.accurate
