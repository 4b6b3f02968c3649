use Rattle.std.proofs.Common.{ℕ, ap, ◌∙◌}
use Rattle.std.proofs.Math.Nat.{mod-eq_of_lt}
use Rattle.apfloat_model.specs.rounding.RoundingToOdd.{odd_quotient}
use Rattle.apfloat_words.proofs.word_quotient.divide_word.Goals as goal

pub returns : goal.returns
returns c = c.odd_for_rest.ensures ∙ ap (λ (x : ℕ). odd_quotient x c.args.divisor) (mod-eq_of_lt c.requires.fits)
