use Rattle.std.proofs.{Common.refl, Common.arith, lemmas.Int.ints}
use Rattle.apfloat_arithmetic.proofs.products.factors_of.Goals as goal

pub full_term-left-requires : goal.full_term-left-requires
full_term-left-requires c = c.requires.left

pub full_term-right-requires : goal.full_term-right-requires
full_term-right-requires c = c.requires.right

pub overflow_add-result : goal.overflow_add-result
overflow_add-result c = omega (arith, ints, c.full_term-left.ensures.within, c.full_term-right.ensures.within)

pub returns-clause-negative : goal.returns-clause-negative
returns-clause-negative c =
    rw (c.product_sign.ensures, c.full_term-left.ensures.negative, c.full_term-right.ensures.negative) refl

pub returns-clause-exponent : goal.returns-clause-exponent
returns-clause-exponent c =
    omega (
      arith,
      ints,
      c.args.shape.parameters.precision_low,
      c.full_term-left.ensures.exponent,
      c.full_term-left.ensures.within,
      c.full_term-right.ensures.exponent,
      c.full_term-right.ensures.within,
    )

pub returns-clause-within : goal.returns-clause-within
returns-clause-within c =
    record {
      low = omega (arith, ints, c.full_term-left.ensures.within, c.full_term-right.ensures.within);
      high = omega (arith, ints, c.full_term-left.ensures.within, c.full_term-right.ensures.within);
    }
