use Rattle.std.proofs.Common.{◌∙◌}
use Rattle.tests.proofs.Summands.{alone_of_bits}
use Rattle.tests.proofs.pairs.alone.Goals as goal

pub returns-clause-pair : goal.returns-clause-pair
returns-clause-pair c =
    c.from_bits.ensures ∙ alone_of_bits c.args.x c.to_bits.result c.to_bits.ensures.below c.to_bits.ensures.back

pub returns-clause-member : goal.returns-clause-member
returns-clause-member c = c.category.ensures.member
