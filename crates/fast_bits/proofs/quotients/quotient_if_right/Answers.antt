use Rattle.std.proofs.Common.{◌+◌, ◌-◌, ◌*◌, ◌%◌, ◌^◌, ◌<◌, ◌≤◌, arith}
use Rattle.std.proofs.Math.Nat.{mod-eq_of_lt, mul-le-mul_left}
use Rattle.apfloat_model.proofs.rounding.KeptDigits.{fits_shifted}
use Rattle.fast_bits.proofs.OddNumbers.{left_of_guess, odd_of_guess}
use Rattle.fast_bits.proofs.quotients.quotient_if_right.Goals as goal

pub returns-then-left-from : goal.returns-then-left-from
returns-then-left-from c =
    let d = c.args.divisor in
    let n = c.args.dividend * 2 ^ c.args.places in
    let taken = c.args.guess * d in
    let fits : c.args.dividend * 2 ^ c.args.places < 2 ^ 128 =
    fits_shifted c.args.dividend 60 c.args.places 128 (omega (arith, c.requires.close, c.requires.narrow))
    (omega (arith, c.requires.short)) in
    let most : taken ≤ c.args.guess * 2 ^ 59 = mul-le-mul_left c.args.guess (omega (arith, c.requires.narrow)) in
    let room : taken + 2 * d ≤ 2 ^ 128 = omega (arith, most, c.ranges.guess.fits, c.requires.narrow) in
    let less = rw (c.from.ensures, c.from-2.ensures, c.from-3.ensures, c.from-4.ensures, mod-eq_of_lt fits)
    at c.if-left-from.true in
    let left = (n + (2 ^ 128 - taken)) % 2 ^ 128 in
    odd_of_guess c.args.guess left d c.one_if_less.result n c.odd_if.result c.leaves_rest.result
    (left_of_guess n taken d (2 ^ 128) fits room less) less
    (rw (c.from.ensures, c.from-2.ensures, c.from-3.ensures, mod-eq_of_lt fits) at c.one_if_less.ensures.less)
    (rw (c.from.ensures, c.from-2.ensures, c.from-3.ensures, mod-eq_of_lt fits) at c.one_if_less.ensures.close)
    (rw (c.from.ensures, c.from-2.ensures, c.from-3.ensures, mod-eq_of_lt fits) at c.leaves_rest.ensures.some)
    (rw (c.from.ensures, c.from-2.ensures, c.from-3.ensures, mod-eq_of_lt fits) at c.leaves_rest.ensures.none)
    (rw c.from-then-left-from.ensures at c.odd_if.ensures)
