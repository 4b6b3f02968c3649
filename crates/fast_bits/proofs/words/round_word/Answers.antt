use Rattle.std.proofs.Common.{ℕ, ap, ◌∙◌}
use Rattle.fast_bits.specs.Addends.{rounded_by}
use Rattle.fast_bits.proofs.words.round_word.Goals as goal

pub returns-clause-kept : goal.returns-clause-kept
returns-clause-kept c =
    (rw c.requires.same at c.kept_of.ensures.is)
    ∙ c.side_in-side.ensures.addend.rounds.rounds c.digits_at-digits.result
    ∙ ap (λ (n : ℕ). rounded_by c.args.plan.low c.args.plan.round c.args.negative n) c.digits_at-digits.ensures.is
