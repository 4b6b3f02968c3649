use Rattle.std.proofs.Common.{refl, ap, ◌∙◌}
use Rattle.apfloat_model.specs.declared.kinds.Category.TheVariants.{Normal, Zero}
use Rattle.apfloat_model.specs.rounding.{Flags.bits_of, Rounding.ok_bits, Rounding.zero_sign}
use Rattle.apfloat_model.specs.{formats.Datum.finite, arithmetic.Sums.zero_sum_sign}
use Rattle.apfloat_model.proofs.arithmetic.Tables.{sum_zero_finite, sum_zeros}
use Rattle.apfloat_rounding.specs.{Shapes.format_at, Stored.datum_at, Stored.quanta_at}
use Rattle.apfloat_arithmetic.proofs.SumCases.{number_stored, same_sum, datum_is}
use Rattle.apfloat_arithmetic.proofs.specials.add_to_zero.Goals as goal

pub returns-in-Normal-clause-delivered : goal.returns-in-Normal-clause-delivered
returns-in-Normal-clause-delivered c =
    let b = c.args.x.negative in
    let y = c.args.y in
    let s = c.args.shape in
    let n = quanta_at s.min_exp y.significand y.exponent in
    let h = number_stored s y c.in-Normal.is c.requires in
    same_sum (format_at s) c.args.round (finite b 0) (datum_at s y) (datum_at s c.and-in-Normal.result.value)
    (finite b 0) (finite y.negative n) (finite y.negative n) (bits_of c.and-in-Normal.result.status) ok_bits
    refl (datum_is Normal s y c.in-Normal.is)
    (ap (datum_at s) c.and-in-Normal.ensures.value ∙ datum_is Normal s y c.in-Normal.is)
    (ap bits_of c.and-in-Normal.ensures.status) (sum_zero_finite (format_at s) c.args.round b y.negative n h.1 h.0)

pub returns-in-Zero-clause-delivered : goal.returns-in-Zero-clause-delivered
returns-in-Zero-clause-delivered c =
    let b = c.args.x.negative in
    let y = c.args.y in
    let s = c.args.shape in
    let sign = zero_sum_sign c.args.round b y.negative in
    let v = rw c.sign_of_zero-negative.ensures at c.zero_of.ensures.datum in
    same_sum (format_at s) c.args.round (finite b 0) (datum_at s y) (datum_at s c.and-in-Zero.result.value) (finite b 0)
    (finite y.negative 0) (finite (zero_sign s.nonfinite sign) 0) (bits_of c.and-in-Zero.result.status) ok_bits
    refl (datum_is Zero s y c.in-Zero.is) (ap (datum_at s) c.and-in-Zero.ensures.value ∙ v)
    (ap bits_of c.and-in-Zero.ensures.status) (sum_zeros (format_at s) c.args.round b y.negative)
