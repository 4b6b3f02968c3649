use Rattle.apfloat_rounding.proofs.CutRests.{rest_below}
use Rattle.apfloat_rounding.proofs.rounding.split_word.Goals as goal

pub returns-clause-below : goal.returns-clause-below
returns-clause-below c =
    rest_below c.args.significand c.args.places c.word_power.result c.low_of_word.result c.requires.some
    c.word_power.ensures c.low_of_word.ensures
