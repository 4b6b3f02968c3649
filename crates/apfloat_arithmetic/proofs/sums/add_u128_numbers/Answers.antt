use Rattle.std.proofs.{Common.arith, lemmas.Int.ints}
use Rattle.apfloat_arithmetic.proofs.{DeliveredTotals.sum_total, DeliveredTotals.total_delivered, Ranges.wider}
use Rattle.apfloat_arithmetic.proofs.sums.add_u128_numbers.Goals as goal

pub full_term-requires : goal.full_term-requires
full_term-requires c = c.requires.normal.left

pub full_term-requires-2 : goal.full_term-requires-2
full_term-requires-2 c = c.requires.normal.right

pub add_u128_terms-total-requires-clause-some : goal.add_u128_terms-total-requires-clause-some
add_u128_terms-total-requires-clause-some c = omega (arith, c.args.shape.parameters.precision_low)

pub add_u128_terms-total-requires-clause-short : goal.add_u128_terms-total-requires-clause-short
add_u128_terms-total-requires-clause-short c = omega (arith, c.requires.short)

pub add_u128_terms-total-requires-clause-x : goal.add_u128_terms-total-requires-clause-x
add_u128_terms-total-requires-clause-x c = wider _ _ _ (omega arith) c.full_term.ensures.within

pub add_u128_terms-total-requires-clause-y : goal.add_u128_terms-total-requires-clause-y
add_u128_terms-total-requires-clause-y c = wider _ _ _ (omega arith) c.full_term-2.ensures.within

pub deliver_total-requires : goal.deliver_total-requires
deliver_total-requires c =
    let l = c.args.shape.parameters in
    let x = c.full_term.ensures.within in
    let y = c.full_term-2.ensures.within in
    let g = c.add_u128_terms-total.ensures.exponent.one in
    record {
      low = omega (arith, ints, l, x, y, g);
      high = omega (arith, ints, l, x, y, g);
    }

pub returns-clause-delivered : goal.returns-clause-delivered
returns-clause-delivered c =
    let g = rw (
      c.full_term.ensures.negative,
      c.full_term.ensures.significand,
      c.full_term-2.ensures.negative,
      c.full_term-2.ensures.significand,
    ) at c.add_u128_terms-total.ensures.rounded in
    total_delivered _ _ _ _ _ _ _ _ _ _ _ (omega arith)
    (sum_total c.args.shape 125 127 _ _ _ _ _ _ _ _ _ _ _ (omega (arith, c.requires.short)) c.requires.normal.left
    c.requires.normal.right c.full_term.ensures.exponent c.full_term-2.ensures.exponent g)
    c.deliver_total.ensures.delivered
