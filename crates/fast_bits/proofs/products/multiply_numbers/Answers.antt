use Rattle.std.proofs.Common.{◌*◌, ◌^◌, Bool, subst, arith}
use Rattle.std.proofs.lemmas.{Int.ints, Nat.pow_pos}
use Rattle.apfloat_ieee.specs.FlaggedTypes.{constants_of, format_of}
use Rattle.fast_bits.specs.{Encoded.IsEncodedNumber, Numbers.quanta_of}
use Rattle.fast_bits.proofs.Operands.{product_kept}
use Rattle.fast_bits.proofs.products.multiply_numbers.Goals as goal

pub returns-in-Some : goal.returns-in-Some
returns-in-Some g c =
    let there = c.in-Some.ensures in
    let from = c.product_place-from.ensures in
    let some = g.S.Flagged.lawful.parameters.precision_low in
    let product = c.raised_product-product.result in
    let raised = rw c.precision_of-precision.ensures at c.raised_product-product.ensures in
    let kept = product_kept g.S.Flagged.PRECISION c.args.x.significand c.args.x.place c.args.y.significand
    c.args.y.place product.moved (format_of g.S.Flagged).scale product.significand c.in-Some.place
    c.power_of-half.result (omega (arith, some)) raised.value raised.fits raised.full
    (rw c.precision_of-precision.ensures at c.power_of-half.ensures.value) (omega (arith, ints, there.0, from)) in
    let upper = rw c.precision_of-precision.ensures at c.upper_digits-kept.ensures.value in
    let lower = rw c.precision_of-precision.ensures at c.lower_digits-rest.ensures in
    let number = c.encode_cut.ensures _ _ (pow_pos (format_of g.S.Flagged).scale) (rw upper kept.enclosed)
    (rw (upper, lower) kept.stands) in
    subst
    (λ (b : Bool). IsEncodedNumber (constants_of g.S.Flagged) c.args.round b
    (quanta_of c.args.x * quanta_of c.args.y) (2 ^ (format_of g.S.Flagged).scale) c.encode_cut.result)
    c.sign_of_product-negative.ensures number
