use Rattle.std.proofs.Common.{rules, refl}
use Rattle.apfloat_model.specs.{declared.kinds.Category.TheVariants.Infinity, rounding.Flags.bits_of}
use Rattle.apfloat_model.specs.formats.Datum.{infinite}
use Rattle.apfloat_rounding.specs.{Shapes.format_at, Stored.datum_at}
use Rattle.apfloat_arithmetic.proofs.SumCases.{same_sum, datum_is}
use Rattle.apfloat_arithmetic.proofs.specials.add_specials.Goals as goal

pub returns-in-Infinity-clause-delivered : goal.returns-in-Infinity-clause-delivered
returns-in-Infinity-clause-delivered c =
    let x = c.args.x in
    let s = c.args.shape in
    let v = datum_at s c.add_to_infinity.result.value in
    let i = bits_of c.add_to_infinity.result.status in
    same_sum (format_at s) c.args.round (datum_at s x) (datum_at s c.args.y) v (infinite x.negative)
    (datum_at s c.args.y) v i i
    (datum_is Infinity s x c.in-Infinity.is) refl refl refl (c.add_to_infinity.ensures.delivered c.args.round)

pub returns-in-NaN-clause-delivered : goal.returns-in-NaN-clause-delivered
returns-in-NaN-clause-delivered c = search rules steps 500000
