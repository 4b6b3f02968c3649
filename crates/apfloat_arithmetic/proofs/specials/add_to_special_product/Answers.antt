use Rattle.std.proofs.Common.{rules}
use Rattle.apfloat_model.specs.rounding.Flags.{bits_of}
use Rattle.apfloat_rounding.specs.Stored.{datum_at}
use Rattle.apfloat_arithmetic.proofs.SpecialProducts.{is_no_number, not_both, with_product}
use Rattle.apfloat_arithmetic.proofs.specials.add_to_special_product.Goals as goal

pub multiply_specials-product-requires : goal.multiply_specials-product-requires
multiply_specials-product-requires c =
    record { left = c.requires.left; right = c.requires.right; special = not_both _ _ c.requires.special }

pub add_specials-requires : goal.add_specials-requires
add_specials-requires c =
    let product = c.multiply_specials-product in
    record {
      left = product.ensures.stored;
      right = c.requires.addend;
      special = λ e f. is_no_number c.args.shape c.args.round c.args.x c.args.y product.result.value _
          c.requires.special (product.ensures.delivered c.args.round) e;
    }

pub returns-then-eq-clause-delivered : goal.returns-then-eq-clause-delivered
returns-then-eq-clause-delivered c =
    let s = c.args.shape in
    let p = c.multiply_specials-product.result in
    with_product s c.args.round c.args.x c.args.y (datum_at s c.args.z)
    (datum_at s c.add_specials.result.value) (datum_at s p.value) (bits_of c.add_specials.result.status)
    (bits_of p.status) c.requires.special (c.multiply_specials-product.ensures.delivered c.args.round) (search rules)

pub returns-else-eq-clause-delivered : goal.returns-else-eq-clause-delivered
returns-else-eq-clause-delivered c =
    let s = c.args.shape in
    let p = c.multiply_specials-product.result in
    with_product s c.args.round c.args.x c.args.y (datum_at s c.args.z)
    (datum_at s p.value) (datum_at s p.value) (bits_of p.status) (bits_of p.status)
    c.requires.special (c.multiply_specials-product.ensures.delivered c.args.round) (search rules)
