use Rattle.tests.proofs.Summands.{two_exactly}
use Rattle.tests.proofs.pairs.exact_sum.Goals as goal

pub returns : goal.returns
returns c =
    two_exactly c.args.x c.args.y _ _ _ c.alone.ensures.pair c.alone-2.ensures.pair c.requires.first c.requires.second
    c.add.ensures.error_free
