use Rattle.std.proofs.Common.{◌*◌, ◌^◌, ◌+ℤ◌, ◌≡◌, refl, arith}
use Rattle.std.proofs.lemmas.Int.{ints}
use Rattle.apfloat_model.specs.arithmetic.{Exact.magnitude, Exact.product_sign, Exact.sign_of, Exact.signed}
use Rattle.apfloat_model.specs.arithmetic.Sums.{zero_sum_sign}
use Rattle.apfloat_arithmetic.proofs.Additions.{read_odd_sign}
use Rattle.apfloat_ieee.specs.FlaggedTypes.{constants_of, format_of}
use Rattle.fast_bits.specs.Numbers.{quanta_of}
use Rattle.fast_bits.proofs.{OddNumbers.total_of_terms, Operands.answered_if_some}
use Rattle.fast_bits.proofs.fused.multiply_add_numbers.Goals as goal

pub add_u128_terms-total-requires-clause-x : goal.add_u128_terms-total-requires-clause-x
add_u128_terms-total-requires-clause-x g c =
    record { low = omega (arith, ints, c.product_term.ensures.above); high = c.product_term.ensures.below }

pub add_u128_terms-total-requires-clause-y : goal.add_u128_terms-total-requires-clause-y
add_u128_terms-total-requires-clause-y g c =
    record { low = omega (arith, ints, c.addend_term.ensures.above); high = c.addend_term.ensures.below }

pub encode_total-requires-clause-near : goal.encode_total-requires-clause-near
encode_total-requires-clause-near g c =
    let product = c.product_term.ensures in
    let addend = c.addend_term.ensures in
    let greater = c.add_u128_terms-total.ensures.exponent.one in
    record {
      low = omega (arith, ints, product.above, addend.above, greater);
      high = omega (arith, ints, product.below, addend.below, greater);
    }

pub returns-else-total-eq0 : goal.returns-else-total-eq0
returns-else-total-eq0 g c =
    let z = c.args.z in
    let sign = product_sign c.args.x.negative c.args.y.negative in
    let scale = (format_of g.S.Flagged).scale in
    let left = quanta_of c.args.x * quanta_of c.args.y in
    let right = quanta_of z * 2 ^ scale in
    let exact = signed sign left +ℤ signed z.negative right in
    let of_zero = zero_sum_sign c.args.round sign z.negative in
    let product = c.product_term.ensures in
    let addend = c.addend_term.ensures in
    let total = c.add_u128_terms-total.result in
    let r = total_of_terms (2 ^ 125) 127 1 c.product_term.result.exponent
    c.addend_term.result.exponent total.exponent sign z.negative total.negative c.product_term.result.significand
    c.addend_term.result.significand left right total.significand product.above addend.above product.counted
    addend.counted (rw (product.negative, addend.negative) at c.add_u128_terms-total.ensures.rounded) in
    let same : total.negative ≡ sign_of of_zero exact =
    read_odd_sign (2 ^ 125) of_zero exact total.exponent total.negative total.negative total.significand r
    (λ e. absurd (c.if-total-eq0.false e)) (λ e. refl) in
    answered_if_some (constants_of g.S.Flagged) c.args.round total.negative (sign_of of_zero exact) (magnitude exact)
    (2 ^ scale) c.encode_total.result same (c.encode_total.ensures (magnitude exact) r.rounded)
