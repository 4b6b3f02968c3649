use Rattle.std.proofs.Common.{refl}
use Rattle.apfloat_model.specs.{declared.kinds.Category.TheVariants.Zero, rounding.Flags.bits_of, formats.Datum.finite}
use Rattle.apfloat_rounding.specs.{Shapes.format_at, Stored.datum_at, Stored.quanta_at}
use Rattle.apfloat_rounding.proofs.StoredBack.{quanta_some}
use Rattle.apfloat_arithmetic.proofs.{SumCases.datum_is, FusedCases.product_rounded, FusedCases.same_fused}
use Rattle.apfloat_arithmetic.proofs.specials.add_to_number_product.Goals as goal

pub returns-in-Zero-clause-delivered : goal.returns-in-Zero-clause-delivered
returns-in-Zero-clause-delivered c =
    let s = c.args.shape in
    let x = c.args.x in
    let y = c.args.y in
    let z = c.args.z in
    let l = quanta_at s.min_exp x.significand x.exponent in
    let m = quanta_at s.min_exp y.significand y.exponent in
    let v = datum_at s c.multiply_numbers_at_every_precision.result.value in
    let i = bits_of c.multiply_numbers_at_every_precision.result.status in
    same_fused (format_at s) c.args.round (finite x.negative l) (finite y.negative m) (datum_at s z) v
    (finite z.negative 0) v i i (datum_is Zero s z c.in-Zero.is) refl refl
    (product_rounded (format_at s) c.args.round x.negative y.negative z.negative l m v i
    (quanta_some s x.significand x.exponent c.requires.normal.left)
    (quanta_some s y.significand y.exponent c.requires.normal.right)
    c.multiply_numbers_at_every_precision.ensures.delivered)
