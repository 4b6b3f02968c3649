use Rattle.std.proofs.Common.{◌-◌, ◌*◌, ◌^◌, ◌<◌, ◌≤◌, arith, w32}
use Rattle.std.proofs.{Math.Nat.mul-pos, lemmas.Int.ints, lemmas.Int.to_z-of_z, lemmas.Nat.pow_pos}
use Rattle.apfloat_model.specs.rounding.Standing.{up, down}
use Rattle.apfloat_model.proofs.rounding.KeptDigits.{fits_cut, full_cut}
use Rattle.apfloat_rounding.proofs.{QuantumCuts.folded_odd, rounding.denormal.in_word.Goals.After-shift_right-kept}
use borrow.Author.Differences.{fits_in}
use Rattle.apfloat_rounding.proofs.rounding.denormal.in_word.Goals as goal

-- at most 62 digits are kept
kept_fits : (c : After-shift_right-kept) → c.shift_right-kept.result.significand < 2 ^ 62
kept_fits c =
    let f = c.if-digits-le62.false in
    rw c.shift_right-kept.ensures.quotient
    (fits_cut c.args.significand c.args.digits (c.args.digits - 62) 62 c.requires.fits (omega (arith, f)))

kept_full : (c : After-shift_right-kept) → 2 ^ 61 ≤ c.shift_right-kept.result.significand
kept_full c =
    let f = c.if-digits-le62.false in
    let h = c.requires.full in
    rw c.shift_right-kept.ensures.quotient
    (full_cut c.args.significand c.args.digits (c.args.digits - 62) 62 (omega arith) (λ _. h) (omega (arith, f)))

pub overflow_cast-kept : goal.overflow_cast-kept
overflow_cast-kept c =
    let f = kept_fits (goal.at.overflow_cast-kept c).After-shift_right-kept in record { fits = omega (arith, f) }

pub odd_for-requires : goal.odd_for-requires
odd_for-requires c =
    let f = kept_fits (goal.at.odd_for-requires c).After-shift_right-kept in record { room = omega (arith, f) }

pub returns-clause-fits : goal.returns-clause-fits
returns-clause-fits c =
    omega (arith, kept_fits (goal.at.returns-clause-fits c).After-shift_right-kept, c.odd_for.ensures.bound)

pub returns-clause-odd : goal.returns-clause-odd
returns-clause-odd c = λ amount parts p h.
    let unit = c.args.unit in
    let above = c.unit_above.result in
    let k = c.args.digits - 62 in
    let e = to_z-of_z w32 unit (fits_in w32 unit (omega (arith, ints, c.requires.within))) in
    let e' = to_z-of_z w32 above (record { sfits = c.unit_above.type_inv }) in
    let v = rw e at c.unit_above.ensures in
    let o : 0 < parts * 2 ^ up unit = mul-pos p (pow_pos (up unit)) in
    let w = c.shift_right-kept.ensures.stands (amount * 2 ^ down unit) (parts * 2 ^ up unit) o h in
    let r = c.odd_for.ensures.rounded (2 ^ 61) (amount * 2 ^ down unit) (2 ^ k * (parts * 2 ^ up unit))
    (kept_full (goal.at.returns-clause-odd c).After-shift_right-kept) (mul-pos (pow_pos k) o) w in
    rw e'
    (folded_odd c.odd_for.result (2 ^ 61) k (up unit) (down unit) (up above) (down above) amount parts
    (omega (arith, ints, v)) r)
