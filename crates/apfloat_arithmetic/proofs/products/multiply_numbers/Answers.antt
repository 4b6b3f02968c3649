use Rattle.std.proofs.Common.{◌*◌, ◌^◌, Bool, subst, arith}
use Rattle.std.proofs.lemmas.Nat.{pow_pos}
use Rattle.apfloat_model.specs.rounding.{Flags.bits_of, Rounding.IsDelivered}
use Rattle.apfloat_rounding.specs.{Shapes.format_at, Stored.quanta_at, Stored.datum_at}
use Rattle.apfloat_arithmetic.proofs.ProductExponents.{counted_product_is}
use Rattle.apfloat_arithmetic.proofs.Ranges.{in_word, wider, wider_word}
use Rattle.apfloat_arithmetic.proofs.products.multiply_numbers.Goals as goal

pub deliver_counted_u128-requires-clause-within : goal.deliver_counted_u128-requires-clause-within
deliver_counted_u128-requires-clause-within c =
    wider_word _ _ _ (omega arith) (omega arith) c.product_term-product.ensures.within

pub returns-clause-delivered : goal.returns-clause-delivered
returns-clause-delivered c =
    let s = c.args.shape in
    let x = c.args.x in
    let y = c.args.y in
    let product = c.product_term-product in
    let exact = quanta_at s.min_exp x.significand x.exponent * quanta_at s.min_exp y.significand y.exponent in
    let w = in_word product.result.exponent (wider _ _ _ (omega arith) product.ensures.within) in
    let g = rw w at c.deliver_counted_u128.ensures.delivered in
    subst (λ (b : Bool). IsDelivered (format_at s) c.args.round b exact (2 ^ (format_at s).scale)
    (datum_at s c.deliver_counted_u128.result.value) (bits_of c.deliver_counted_u128.result.status))
    product.ensures.negative
    (g exact (2 ^ (format_at s).scale) (pow_pos (format_at s).scale)
    (counted_product_is (format_at s).scale exact product.result.significand product.result.exponent
    product.ensures.counted))
