use Rattle.std.proofs.Common.{◌∙◌}
use Rattle.apfloat_rounding.proofs.CutRests.{folded_rest, upper_kept}
use Rattle.apfloat_rounding.proofs.rounding.split_high.Goals as goal

pub returns-clause-kept : goal.returns-clause-kept
returns-clause-kept c = c.from.ensures ∙ upper_kept c.args.significand 64 c.args.places c.requires.long

pub returns-clause-rest : goal.returns-clause-rest
returns-clause-rest c =
    let low = c.low_digits.ensures in
    folded_rest c.args.significand 64 c.args.places c.low_of_word.result c.one_if_some.result c.word_power.result
    c.requires.long c.low_of_word.ensures (λ z. c.one_if_some.ensures.none (low ∙ z))
    (λ p. c.one_if_some.ensures.some (rw low p)) c.word_power.ensures
