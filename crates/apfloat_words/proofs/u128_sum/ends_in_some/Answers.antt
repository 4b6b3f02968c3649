use Rattle.std.proofs.lemmas.Bool.{ltb-true, ltb-false}
use Rattle.apfloat_words.proofs.LowestOnes.{rest_within_zeros}
use Rattle.apfloat_words.proofs.u128_sum.ends_in_some.Goals as goal

pub returns-clause-some : goal.returns-clause-some
returns-clause-some c = λ e.
    (rest_within_zeros c.args.number c.args.places c.requires c.ranges.number.fits).0 (ltb-true _ c.args.places e)

pub returns-clause-none : goal.returns-clause-none
returns-clause-none c = λ e.
    (rest_within_zeros c.args.number c.args.places c.requires c.ranges.number.fits).1 (ltb-false _ c.args.places e)
