use Rattle.std.proofs.Common.{refl, ap, ◌∙◌}
use Rattle.apfloat_model.specs.declared.kinds.Category.TheVariants.{Normal, Zero}
use Rattle.apfloat_model.specs.{rounding.Flags.bits_of, rounding.Rounding.ok_bits, formats.Datum.finite}
use Rattle.apfloat_model.proofs.arithmetic.Tables.{sum_finite_zero}
use Rattle.apfloat_rounding.specs.{Shapes.format_at, Stored.datum_at, Stored.quanta_at}
use Rattle.apfloat_arithmetic.proofs.SumCases.{number_stored, same_sum, datum_is}
use Rattle.apfloat_arithmetic.proofs.specials.add_to_number.Goals as goal

pub returns-in-Zero-clause-delivered : goal.returns-in-Zero-clause-delivered
returns-in-Zero-clause-delivered c =
    let x = c.args.x in
    let s = c.args.shape in
    let n = quanta_at s.min_exp x.significand x.exponent in
    let h = number_stored s x c.requires.normal c.requires.x_stored in
    same_sum (format_at s) c.args.round (finite x.negative n) (datum_at s c.args.y) (datum_at s c.and.result.value)
    (finite x.negative n) (finite c.args.y.negative 0) (finite x.negative n) (bits_of c.and.result.status) ok_bits
    refl (datum_is Zero s c.args.y c.in-Zero.is)
    (ap (datum_at s) c.and.ensures.value ∙ datum_is Normal s x c.requires.normal) (ap bits_of c.and.ensures.status)
    (sum_finite_zero (format_at s) c.args.round x.negative c.args.y.negative n h.1 h.0)
