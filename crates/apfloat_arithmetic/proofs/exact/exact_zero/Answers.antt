use Rattle.std.proofs.Common.{◌≡◌, ◌∙◌, ap, refl}
use Rattle.apfloat_model.specs.rounding.Rounding.{signed_quanta}
use Rattle.apfloat_model.proofs.rounding.Laws.{zero_delivered}
use Rattle.apfloat_rounding.specs.{Shapes.format_at, Stored.datum_at}
use Rattle.apfloat_arithmetic.proofs.exact.exact_zero.Goals as goal

pub returns-clause-delivered : goal.returns-clause-delivered
returns-clause-delivered c = λ round parts p.
    let s = c.args.shape in
    let v : datum_at s c.and.result.value ≡ signed_quanta s.nonfinite c.args.negative 0 =
    ap (datum_at s) c.and.ensures.value ∙ c.zero_of.ensures.datum in
    rw (v, c.and.ensures.status) (zero_delivered (format_at s) round c.args.negative parts 0 p refl)
