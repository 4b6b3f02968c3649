use Rattle.std.proofs.Common.{◌≡◌, ℕ, ◌+◌, ◌-◌, ◌*◌, ◌^◌, ◌<◌, ◌≤◌, List, length, take, get_or, sym, ap, ◌∙◌, subst}
use Rattle.std.proofs.{Common.arith, lemmas.List.take_all}
use Rattle.apfloat_decimals.specs.LeadingDigits.{number_from}
use Rattle.apfloat_decimals.proofs.numbers.LeadingNumbers.{digit_of, value_of_digit, number_next}
use Rattle.apfloat_decimals.proofs.digits.ShortNumbers.{digit_fits, digit_room, no_more}
use Rattle.apfloat_decimals.proofs.texts.first_digits.number_after.Goals as goal

pub with_digit-number-requires-clause-fits : goal.with_digit-number-requires-clause-fits
with_digit-number-requires-clause-fits c =
    let some : 0 < length c.args.digits.now - c.loop-i.i = omega arith in
    digit_room c.loop-i.number (length c.args.digits.now - c.loop-i.i)
    ((c.args.first + 1) * 10 ^ length c.args.digits.now) some c.loop-i.invariant.fits c.requires.fits

pub loop-i-preserved : goal.loop-i-preserved
loop-i-preserved c =
    let digits = c.args.digits.now in
    let i = c.loop-i.i in
    let x = get_or digits i 0 in
    let d = digit_of digits i c.requires.digits c.loop-i-test.true in
    let few : x - 48 < 10 = let h = d.1 in omega (arith, h) in
    let some : 0 < length digits - i = omega arith in
    let one : length digits - (i + 1) ≡ length digits - i - 1 = omega arith in
    let most : ℕ = (c.args.first + 1) * 10 ^ length digits in
    let fits : (c.loop-i.number * 10 + (x - 48) + 1) * 10 ^ (length digits - i - 1) ≤ most =
    digit_fits c.loop-i.number (x - 48) (length digits - i) most few some c.loop-i.invariant.fits in
    let next : number_from c.args.first (take (i + 1) digits)
    ≡ number_from c.args.first (take i digits) * 10 + (x - 48) = number_next digits i c.args.first c.loop-i-test.true
    ∙ ap (λ (v : ℕ). number_from c.args.first (take i digits) * 10 + v) (value_of_digit x d.1) in
    record {
      number = c.with_digit-number.ensures ∙ ap (λ (v : ℕ). v * 10 + (x - 48)) c.loop-i.invariant.number ∙ sym next;
      fits = subst (λ (v : ℕ). (v + 1) * 10 ^ (length digits - (i + 1)) ≤ most) (sym c.with_digit-number.ensures)
          (subst (λ (v : ℕ). (c.loop-i.number * 10 + (x - 48) + 1) * 10 ^ v ≤ most) (sym one) fits);
    }

pub returns-clause-number : goal.returns-clause-number
returns-clause-number c =
    let e : take c.loop-i.i c.args.digits.now ≡ c.args.digits.now =
    take_all c.loop-i.i c.args.digits.now (omega arith) in
    subst (λ (l : List ℕ). c.loop-i.number ≡ number_from c.args.first l) e c.loop-i.invariant.number

pub returns-clause-fits : goal.returns-clause-fits
returns-clause-fits c =
    let none : length c.args.digits.now - c.loop-i.i ≡ 0 = omega arith in
    no_more c.loop-i.number ((c.args.first + 1) * 10 ^ length c.args.digits.now)
    (subst (λ (v : ℕ). (c.loop-i.number + 1) * 10 ^ v ≤ (c.args.first + 1) * 10 ^ length c.args.digits.now) none
    c.loop-i.invariant.fits)
