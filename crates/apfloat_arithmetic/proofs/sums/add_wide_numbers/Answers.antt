use Rattle.std.proofs.{Common.arith, lemmas.Int.ints}
use Rattle.apfloat_arithmetic.proofs.DeliveredTotals.{sum_total, total_delivered}
use Rattle.apfloat_arithmetic.proofs.sums.add_wide_numbers.Goals as goal

pub full_term-requires : goal.full_term-requires
full_term-requires c = c.requires.normal.left

pub full_term-requires-2 : goal.full_term-requires-2
full_term-requires-2 c = c.requires.normal.right

pub add_wide_terms-total-requires-clause-short : goal.add_wide_terms-total-requires-clause-short
add_wide_terms-total-requires-clause-short c = omega (arith, c.args.shape.parameters.precision_high)

pub add_wide_terms-total-requires-clause-x : goal.add_wide_terms-total-requires-clause-x
add_wide_terms-total-requires-clause-x c =
    record {
      low = omega (arith, ints, c.widened_term.ensures.exponent, c.full_term.ensures.within);
      high = omega (arith, ints, c.widened_term.ensures.exponent, c.full_term.ensures.within);
    }

pub add_wide_terms-total-requires-clause-x_fits : goal.add_wide_terms-total-requires-clause-x_fits
add_wide_terms-total-requires-clause-x_fits c = rw c.widened_term.ensures.significand c.full_term.ensures.fits

pub add_wide_terms-total-requires-clause-x_full : goal.add_wide_terms-total-requires-clause-x_full
add_wide_terms-total-requires-clause-x_full c = rw c.widened_term.ensures.significand c.full_term.ensures.full

pub add_wide_terms-total-requires-clause-y : goal.add_wide_terms-total-requires-clause-y
add_wide_terms-total-requires-clause-y c =
    record {
      low = omega (arith, ints, c.widened_term-2.ensures.exponent, c.full_term-2.ensures.within);
      high = omega (arith, ints, c.widened_term-2.ensures.exponent, c.full_term-2.ensures.within);
    }

pub add_wide_terms-total-requires-clause-y_fits : goal.add_wide_terms-total-requires-clause-y_fits
add_wide_terms-total-requires-clause-y_fits c = rw c.widened_term-2.ensures.significand c.full_term-2.ensures.fits

pub add_wide_terms-total-requires-clause-y_full : goal.add_wide_terms-total-requires-clause-y_full
add_wide_terms-total-requires-clause-y_full c = rw c.widened_term-2.ensures.significand c.full_term-2.ensures.full

pub deliver_total-requires : goal.deliver_total-requires
deliver_total-requires c =
    record {
      low = omega (arith, ints, c.add_wide_terms-total.ensures.within);
      high = omega (arith, ints, c.add_wide_terms-total.ensures.within);
    }

pub returns-clause-delivered : goal.returns-clause-delivered
returns-clause-delivered c =
    let g = rw (
      c.widened_term.ensures.negative,
      c.widened_term.ensures.exponent,
      c.widened_term.ensures.significand,
      c.widened_term-2.ensures.negative,
      c.widened_term-2.ensures.exponent,
      c.widened_term-2.ensures.significand,
      c.full_term.ensures.negative,
      c.full_term.ensures.significand,
      c.full_term-2.ensures.negative,
      c.full_term-2.ensures.significand,
    ) at c.add_wide_terms-total.ensures.rounded in
    total_delivered _ _ _ _ _ _ _ _ _ _ _ (omega arith)
    (sum_total c.args.shape 127 253 _ _ _ _ _ _ _ _ _ _ _ (omega (arith, c.args.shape.parameters.precision_high))
    c.requires.normal.left c.requires.normal.right c.full_term.ensures.exponent c.full_term-2.ensures.exponent g)
    c.deliver_total.ensures.delivered
