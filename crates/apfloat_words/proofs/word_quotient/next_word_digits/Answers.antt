use Rattle.std.proofs.Common.{◌≡◌, ℕ, ◌+◌, ◌-◌, ◌*◌, ◌/◌, ◌^◌, ap, ◌∙◌, sym, arith}
use Rattle.std.proofs.lemmas.Nat.{pow-add, pow_pos}
use Rattle.apfloat_words.proofs.LongDivisions.{IsGuess, guess_low, guess_nearer}
use Rattle.apfloat_words.proofs.word_quotient.next_word_digits.Goals.{After-divided_by}
use Rattle.apfloat_words.proofs.word_quotient.next_word_digits.Goals as goal

abbrev guess : After-divided_by → ℕ
guess c = c.divided_by.result / 2 ^ (31 - c.args.places)

parts : (state : After-divided_by) → 2 ^ (31 - state.args.places) * 2 ^ state.args.places ≡ 2 ^ 31
parts c =
    let w : (31 - c.args.places) + c.args.places ≡ 31 = let s = c.requires.short in omega arith in
    sym (pow-add 2 (31 - c.args.places) c.args.places) ∙ ap (λ (x : ℕ). 2 ^ x) w

-- twice the rest has its highest digits, with 31 more places
is_guess : (state : After-divided_by) → IsGuess state.args.rest state.args.divisor (2 * state.args.rest)
    state.args.guide (2 ^ 30) (2 ^ (31 - state.args.places)) (2 ^ state.args.places) (guess state)
is_guess c =
    let r : c.args.rest * (2 ^ (31 - c.args.places) * 2 ^ c.args.places) ≡ c.args.rest * 2 ^ 31 =
    ap (λ (x : ℕ). c.args.rest * x) (parts c) in
    record {
      top_low = omega arith;
      top_near = omega arith;
      guide_is = c.requires.guide;
      guess_is = ap (λ (x : ℕ). x / 2 ^ (31 - c.args.places)) c.divided_by.ensures;
      unit_some = pow_pos 30;
      part_some = pow_pos (31 - c.args.places);
      count_some = pow_pos c.args.places;
      below = c.requires.below;
    }

pub guessed_word_digits-requires-clause-low : goal.guessed_word_digits-requires-clause-low
guessed_word_digits-requires-clause-low c = guess_low _ _ _ _ _ _ _ _ (is_guess c)

pub guessed_word_digits-requires-clause-near : goal.guessed_word_digits-requires-clause-near
guessed_word_digits-requires-clause-near c =
    let f = c.requires.full in
    let u : 2 ^ (31 - c.args.places) * 2 ^ c.args.places * 2 ^ 30 ≡ 2 ^ 31 * 2 ^ 30 =
    ap (λ (x : ℕ). x * 2 ^ 30) (parts c) in
    guess_nearer _ _ _ _ _ _ _ _ (is_guess c) (omega arith)
