use Rattle.std.proofs.Common.{◌≡◌, ℕ, ◌*◌, ◌/◌, ◌%◌, ◌^◌, ◌<◌, ◌≤◌, ◌∙◌, ap}
use Rattle.std.proofs.{Common.arith, Math.Nat.mod-eq_of_lt, Math.Nat.pow-le-pow_right, Math.Nat.mul-le-mul_left}
use Rattle.std.proofs.{Math.Nat.mul-lt-mul_of_pos_right, lemmas.Nat.pow_pos}
use Rattle.apfloat_model.specs.rounding.RoundingToOdd.{odd_for_rest}
use Rattle.apfloat_model.proofs.{general.Powers.two_pos, rounding.KeptDigits.fits_shifted}
use Rattle.apfloat_words.proofs.guessed_quotient.divide_by_guess.Goals as goal

-- the dividend, moved up, fits in a u128
moved : (dividend divisor places from : ℕ) → from ≡ dividend → dividend < 2 * divisor → divisor < 2 ^ 62 → places ≤ 61
    → from * 2 ^ places % 2 ^ 128 ≡ dividend * 2 ^ places
moved dividend divisor places from e l n s =
    let below : dividend < 2 ^ 63 = omega (arith, n, l) in
    let fits : dividend * 2 ^ places < 2 ^ 128 = fits_shifted dividend 63 places 128 below (omega (arith, s)) in
    ap (λ (x : ℕ). x * 2 ^ places % 2 ^ 128) e ∙ mod-eq_of_lt fits

pub checked_division-division-requires-clause-fits : goal.checked_division-division-requires-clause-fits
checked_division-division-requires-clause-fits c =
    let p : 2 ^ c.args.places ≤ 2 ^ 61 = pow-le-pow_right two_pos c.requires.short in
    let l : c.args.dividend * 2 ^ c.args.places < 2 * c.args.divisor * 2 ^ c.args.places =
    mul-lt-mul_of_pos_right c.requires.close (pow_pos c.args.places) in
    let k : 2 * c.args.divisor * 2 ^ c.args.places ≤ 2 * c.args.divisor * 2 ^ 61 =
    mul-le-mul_left (2 * c.args.divisor) p in
    rw (moved c.args.dividend c.args.divisor c.args.places c.from.result c.from.ensures c.requires.close
    c.requires.narrow c.requires.short) (omega (arith, l, k))

pub returns : goal.returns
returns c =
    let n = c.args.dividend * 2 ^ c.args.places in
    let d = c.args.divisor in
    let m = moved c.args.dividend c.args.divisor c.args.places c.from.result c.from.ensures c.requires.close
    c.requires.narrow c.requires.short in
    let division = c.checked_division-division in
    let q : division.result.quotient ≡ n / d = division.ensures.quotient ∙ ap (λ (x : ℕ). x / d) m in
    let k : division.result.rest ≡ n % d = division.ensures.rest ∙ ap (λ (x : ℕ). x % d) m in
    c.odd_for_rest.ensures ∙ ap (λ (x : ℕ). odd_for_rest x division.result.rest) q
    ∙ ap (λ (x : ℕ). odd_for_rest (n / d) x) k
