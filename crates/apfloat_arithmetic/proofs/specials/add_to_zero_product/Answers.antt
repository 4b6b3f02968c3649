use Rattle.std.proofs.Common.{◌∙◌, Bool, refl, sym, ap}
use Rattle.apfloat_model.specs.declared.kinds.Category.TheVariants.{Normal, Zero}
use Rattle.apfloat_model.specs.rounding.{Flags.bits_of, Rounding.ok_bits}
use Rattle.apfloat_model.specs.{formats.Datum.finite, arithmetic.Sums.zero_sum_sign}
use Rattle.apfloat_model.proofs.arithmetic.Tables.{fused_zero_finite}
use Rattle.apfloat_rounding.specs.{Shapes.format_at, Stored.datum_at, Stored.quanta_at}
use Rattle.apfloat_arithmetic.proofs.SumCases.{number_stored, datum_is}
use Rattle.apfloat_arithmetic.proofs.FusedCases.{zeros_rounded, same_fused}
use Rattle.apfloat_arithmetic.proofs.specials.add_to_zero_product.Goals as goal

pub returns-in-Normal-clause-delivered : goal.returns-in-Normal-clause-delivered
returns-in-Normal-clause-delivered c = λ b d l m e h.
    let s = c.args.shape in
    let z = c.args.z in
    let n = quanta_at s.min_exp z.significand z.exponent in
    let t = number_stored s z c.in-Normal.is c.requires in
    same_fused (format_at s) c.args.round (finite b l) (finite d m) (datum_at s z) (datum_at s c.and.result.value)
    (finite z.negative n) (finite z.negative n) (bits_of c.and.result.status) ok_bits
    (datum_is Normal s z c.in-Normal.is) (ap (datum_at s) c.and.ensures.value ∙ datum_is Normal s z c.in-Normal.is)
    (ap bits_of c.and.ensures.status) (fused_zero_finite (format_at s) c.args.round b d z.negative l m n h t.1 t.0)

pub returns-in-Zero-clause-delivered : goal.returns-in-Zero-clause-delivered
returns-in-Zero-clause-delivered c = λ b d l m e h.
    let s = c.args.shape in
    let z = c.args.z in
    let v = datum_at s c.exact_zero.result.value in
    let i = bits_of c.exact_zero.result.status in
    let sign = c.sign_of_zero.ensures ∙ ap (λ (x : Bool). zero_sum_sign c.args.round x z.negative) (sym e) in
    same_fused (format_at s) c.args.round (finite b l) (finite d m) (datum_at s z) v (finite z.negative 0) v i i
    (datum_is Zero s z c.in-Zero.is) refl refl
    (zeros_rounded (format_at s) c.args.round b d z.negative c.sign_of_zero.result l m v i h sign
    (c.exact_zero.ensures.delivered c.args.round))
