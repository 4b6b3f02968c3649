use Rattle.std.proofs.Common.{◌≡◌, ℕ, ◌+◌, ◌-◌, ◌*◌, ◌/◌, ◌%◌, ◌^◌, ◌<◌, ◌≤◌}
use Rattle.std.proofs.{Common.arith, Math.Nat.le-div_iff_mul-le, Math.Nat.div-lt_iff_lt-mul, lemmas.Nat.pow_pos}
use Rattle.apfloat_words.proofs.MovedUp.{HasDigits, digits_few, up_narrow, up_full, up_whole}
use Rattle.apfloat_words.proofs.word_quotient.word_divisor.Goals.{After-digits-up}
use Rattle.apfloat_words.proofs.word_quotient.word_divisor.Goals as goal

has_digits : (state : After-digits-up) → HasDigits state.args.divisor state.digits-up.result 62
has_digits c =
    let e = c.from.ensures in
    record {
      some = c.requires.some;
      below = let b = c.digits-up.ensures.below in omega (arith, e, b);
      full = λ p. let f = c.digits-up.ensures.full p in omega (arith, e, f);
      narrow = c.requires.narrow;
    }

whole : (state : After-digits-up) → state.args.divisor * 2 ^ (62 - state.digits-up.result) % 2 ^ 64
    ≡ state.args.divisor * 2 ^ (62 - state.digits-up.result)
whole c = up_whole _ _ 62 64 (has_digits c) (omega arith)

pub overflow_sub-up : goal.overflow_sub-up
overflow_sub-up c = digits_few _ _ _ (has_digits c)

pub returns-clause-moved : goal.returns-clause-moved
returns-clause-moved c = whole (goal.at.returns-clause-moved c).After-digits-up

pub returns-clause-full : goal.returns-clause-full
returns-clause-full c =
    let state = (goal.at.returns-clause-full c).After-digits-up in
    rw (whole state) (up_full _ _ 62 (has_digits state))

pub returns-clause-narrow : goal.returns-clause-narrow
returns-clause-narrow c =
    let state = (goal.at.returns-clause-narrow c).After-digits-up in
    rw (whole state) (up_narrow _ _ 62 (has_digits state))

-- the highest 32 digits, plus 1
guide : (n : ℕ) → 2 ^ 61 ≤ n → n < 2 ^ 62 → (2 ^ 31 < n / 2 ^ 30 + 1) × (n / 2 ^ 30 + 1 ≤ 2 ^ 32)
guide n l h =
    let a : 2 ^ 31 ≤ n / 2 ^ 30 = (le-div_iff_mul-le (pow_pos 30)).1 (omega (arith, l)) in
    let b : n / 2 ^ 30 < 2 ^ 32 = (div-lt_iff_lt-mul (pow_pos 30)).1 (omega (arith, h)) in
    (omega (arith, a), omega (arith, b))

pub guessed_reciprocal-requires-clause-full : goal.guessed_reciprocal-requires-clause-full
guessed_reciprocal-requires-clause-full c =
    let state = (goal.at.guessed_reciprocal-requires-clause-full c).After-digits-up in
    rw (whole state) (guide _ (up_full _ _ 62 (has_digits state)) (up_narrow _ _ 62 (has_digits state))).0

pub guessed_reciprocal-requires-clause-fits : goal.guessed_reciprocal-requires-clause-fits
guessed_reciprocal-requires-clause-fits c =
    let state = (goal.at.guessed_reciprocal-requires-clause-fits c).After-digits-up in
    rw (whole state) (guide _ (up_full _ _ 62 (has_digits state)) (up_narrow _ _ 62 (has_digits state))).1
