use Rattle.std.proofs.Common.{◌≡◌, ℕ, ◌+◌, ◌-◌, ◌*◌, ◌/◌, ◌%◌, ◌^◌, ◌<◌, ◌≤◌}
use Rattle.std.proofs.{Common.arith, Math.Nat.mod-eq_of_lt, Math.Nat.le-div_iff_mul-le, lemmas.Nat.pow_pos}
use Rattle.apfloat_model.proofs.rounding.KeptDigits.{fits_shifted, full_shifted}
use Rattle.apfloat_words.proofs.guessed_quotient.guess_quotient.Goals as goal

-- the highest 32 digits of the divisor, plus 1, are above 2 ^ 31
highest : (divisor precision : ℕ) → 0 < precision → precision ≤ 59 → divisor < 2 ^ precision
    → 2 ^ (precision - 1) ≤ divisor → 2 ^ 31 < divisor * 2 ^ (64 - precision) % 2 ^ 64 / 2 ^ 32 + 1
highest divisor precision p s f l =
    let up : precision + (64 - precision) ≡ 64 = omega arith in
    let x = divisor * 2 ^ (64 - precision) in
    let fits : x < 2 ^ 64 = fits_shifted divisor precision (64 - precision) 64 f (omega (arith, up)) in
    let full : 2 ^ 63 ≤ x = full_shifted divisor precision (64 - precision) 64 p (λ d. l) up in
    let high : 2 ^ 31 ≤ x / 2 ^ 32 = (le-div_iff_mul-le (pow_pos 32)).1 (omega (arith, full)) in
    rw (mod-eq_of_lt fits) (omega (arith, high))

pub near_reciprocal-near-requires-clause-full : goal.near_reciprocal-near-requires-clause-full
near_reciprocal-near-requires-clause-full c =
    highest c.args.divisor c.args.precision c.requires.some c.requires.short c.requires.divisor_fits
    c.requires.divisor_full

pub guessed_reciprocal-near-requires-clause-full : goal.guessed_reciprocal-near-requires-clause-full
guessed_reciprocal-near-requires-clause-full c =
    highest c.args.divisor c.args.precision c.requires.some c.requires.short c.requires.divisor_fits
    c.requires.divisor_full
