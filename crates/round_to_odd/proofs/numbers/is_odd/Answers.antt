use Rattle.std.proofs.Common.{◌≡◌, ℕ, ◌/◌, ◌%◌, ◌^◌, eqb, ap, ◌∙◌, pos, ◌+ℤ◌, w32}
use Rattle.std.proofs.{Common.arith, lemmas.Int.ints, lemmas.Int.to_z-of_z}
use Rattle.apfloat_model.specs.{order.Classes.quanta_of, rounding.Standing.down}
use Rattle.apfloat_model.proofs.arithmetic.Significands.{exponent_fits}
use Rattle.apfloat_ieee.specs.FlaggedTypes.{format_of}
use Rattle.round_to_odd.proofs.LastDigits.{few_below, odd_read}
use Rattle.round_to_odd.proofs.numbers.is_odd.{Given.Over, Goals.After-digits_below_quantum}
use Rattle.round_to_odd.proofs.numbers.is_odd.Goals as goal

-- how many digits are below the quantum
below_is : (g : Over) → (state : After-digits_below_quantum g) → state.digits_below_quantum.result
    ≡ down (state.number-number.result.exponent +ℤ pos (format_of g.S.Flagged).scale)
below_is g c =
    let within = c.number-number.ensures.within in
    let low = within.low in
    let high = within.high in
    let exact = to_z-of_z w32 c.number-number.result.exponent
    (exponent_fits c.number-number.result.exponent
    (record { low = omega (arith, ints, low); high = omega (arith, ints, high) })) in
    rw exact at c.digits_below_quantum.ensures

pub is_odd_above-requires : goal.is_odd_above-requires
is_odd_above-requires g c =
    let f = format_of g.S.Flagged in
    let number = c.number-number in
    let law = g.S.Flagged.lawful.parameters in
    let least = few_below f.precision (quanta_of c.args.x) number.result.significand
    (number.result.exponent +ℤ pos f.scale) (omega (arith, law.precision_low)) c.requires.some number.ensures.fits
    number.ensures.number in
    omega (arith, below_is g (goal.at.is_odd_above-requires g c).After-digits_below_quantum, least, law.precision_high)

pub returns : goal.returns
returns g c = λ above next.
    let f = format_of g.S.Flagged in
    let number = c.number-number in
    let some = g.S.Flagged.lawful.parameters.precision_low in
    c.is_odd_above.ensures ∙ ap (λ (n : ℕ). eqb (number.result.significand / 2 ^ n % 2) 1)
    (below_is g (goal.at.returns g c).After-digits_below_quantum)
    ∙ odd_read f.precision (quanta_of c.args.x) number.result.significand above (number.result.exponent +ℤ pos f.scale)
    (omega (arith, some)) number.ensures.fits number.ensures.full number.ensures.number next
