use Rattle.apfloat_model.specs.{rounding.Flags.bits_of, arithmetic.Products.IsProduct}
use Rattle.apfloat_model.proofs.{arithmetic.ProductLaws.opposite_product, whole_numbers.SignedNumbers.largest_some}
use Rattle.apfloat_ieee.specs.FlaggedTypes.{format_of}
use Rattle.apfloat_ieee.proofs.products.product.Goals as goal

pub returns-clause-opposite : goal.returns-clause-opposite
returns-clause-opposite g c =
    let d = rw c.shape_of.ensures at c.multiply.ensures.delivered in
    let p : IsProduct (format_of g.S.Flagged) c.args.round c.args.x c.args.y c.answered.result.value
    (bits_of c.answered.result.status) =
    rw (c.unpacked.ensures.datum, c.unpacked-2.ensures.datum, c.answered.ensures.value, c.answered.ensures.status) d in
    opposite_product (format_of g.S.Flagged) c.args.round c.args.x c.args.y c.answered.result.value
    (bits_of c.answered.result.status)
    (largest_some (format_of g.S.Flagged) g.S.Flagged.lawful.parameters.precision_low) p

pub returns-clause-product : goal.returns-clause-product
returns-clause-product g c =
    let d = rw c.shape_of.ensures at c.multiply.ensures.delivered in
    rw (c.unpacked.ensures.datum, c.unpacked-2.ensures.datum, c.answered.ensures.value, c.answered.ensures.status) d
