use Rattle.std.proofs.{Common.arith, lemmas.Int.ints, lemmas.Nat.pow_pos}
use Rattle.apfloat_arithmetic.proofs.{DeliveredTotals.fused_total, DeliveredTotals.total_delivered, Ranges.wider}
use Rattle.apfloat_arithmetic.proofs.fused.multiply_add_numbers.Goals as goal

pub add_u128_terms-total-requires-clause-x : goal.add_u128_terms-total-requires-clause-x
add_u128_terms-total-requires-clause-x c = wider _ _ _ (omega arith) c.product_term-product.ensures.within

pub add_u128_terms-total-requires-clause-y : goal.add_u128_terms-total-requires-clause-y
add_u128_terms-total-requires-clause-y c = wider _ _ _ (omega arith) c.addend_term.ensures.within

pub deliver_total-requires : goal.deliver_total-requires
deliver_total-requires c =
    let s = c.requires.short in
    let p = c.product_term-product.ensures.within in
    let a = c.addend_term.ensures.within in
    let g = c.add_u128_terms-total.ensures.exponent.one in
    record { low = omega (arith, ints, s, p, a, g); high = omega (arith, ints, s, p, a, g) }

pub returns-clause-delivered : goal.returns-clause-delivered
returns-clause-delivered c =
    let product = c.product_term-product.ensures in
    total_delivered _ _ _ _ _ _ _ _ _ _ _ (pow_pos _)
    (fused_total c.args.shape 125 127 _ _ _ _ _ _ _ _ _ _ _ _ _ (omega (arith, c.requires.short)) product
    c.addend_term.ensures c.add_u128_terms-total.ensures.rounded)
    (rw product.negative at c.deliver_total.ensures.delivered)
