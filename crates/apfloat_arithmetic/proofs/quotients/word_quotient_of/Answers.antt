use Rattle.std.proofs.Common.{◌≡◌, ℕ, ◌+◌, ◌*◌, ◌^◌, ◌<◌, ◌≤◌, arith}
use Rattle.apfloat_model.proofs.general.Powers.{twice_power, fits_longer}
use Rattle.apfloat_model.proofs.rounding.KeptDigits.{fits_shifted}
use Rattle.apfloat_arithmetic.proofs.quotients.word_quotient_of.Goals as goal

-- a dividend below twice a divisor of at most 31 digits, moved up, fits in a word
moved_within : (dividend divisor precision : ℕ) → dividend < 2 * divisor → divisor < 2 ^ precision → precision ≤ 31
    → dividend * 2 ^ (precision + 1) < 2 ^ 64
moved_within dividend divisor precision close fits l =
    let t : 2 ^ (precision + 1) ≡ 2 * 2 ^ precision = twice_power precision in
    fits_shifted dividend (precision + 1) (precision + 1) 64 (omega (arith, close, fits, t)) (omega (arith, l))

pub divide_by_guess-requires-clause-narrow : goal.divide_by_guess-requires-clause-narrow
divide_by_guess-requires-clause-narrow c =
    let s = c.requires.short in
    fits_longer c.args.divisor c.args.precision 62 c.requires.divisor_fits (omega (arith, s))

pub divide_word-requires-clause-fits : goal.divide_word-requires-clause-fits
divide_word-requires-clause-fits c =
    let s = c.if-precision-le15.true in
    moved_within c.args.dividend c.args.divisor c.args.precision c.requires.close c.requires.divisor_fits
    (omega (arith, s))
