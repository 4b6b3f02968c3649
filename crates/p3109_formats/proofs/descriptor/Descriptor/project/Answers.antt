use Rattle.std.proofs.Common.{◌≡◌, ℕ, ◌*◌, ◌^◌, not, eqb, sym, ap, ◌∙◌, subst}
use Rattle.apfloat_model.specs.declared.kinds.Category.TheVariants.{NaN, Normal}
use Rattle.apfloat_model.specs.{order.Classes.category_of, order.Classes.quanta_of, rounding.Flags.bits_of}
use Rattle.apfloat_ieee.specs.Types.{format_of}
use Rattle.p3109_formats.specs.ModeConversions.{IsProjectedBy}
use Rattle.p3109_formats.specs.Projections.{projected_datum, projected_format}
use Rattle.p3109_formats.proofs.Values.{nan_into, number_into, positive_quanta, signed_if}
use Rattle.p3109_formats.proofs.descriptor.Descriptor.project.Goals as goal

pub returns-in-NaN-clause-into : goal.returns-in-NaN-clause-into
returns-in-NaN-clause-into g c =
    let d = c.args.self in
    let none : category_of c.args.x ≡ NaN = sym c.category.ensures.category ∙ c.in-NaN.is in
    nan_into d (format_of g.S.Semantics) c.args.rule c.args.x c.and.result.value (bits_of c.and.result.status) _ none
    (ap (λ (code : ℕ). projected_datum d code) c.and.ensures.value ∙ c.nan.ensures.datum)
    (ap bits_of c.and.ensures.status ∙ c.status_of_nan.ensures)
    (ap (λ (mask : ℕ). not (eqb mask 0)) (c.NAN_PAYLOAD_MASK.ensures ∙ g.S.Semantics.lawful.mask))

pub infinity_by-requires-clause-sign : goal.infinity_by-requires-clause-sign
infinity_by-requires-clause-sign g c =
    signed_if c.is_negative-negative.result c.args.self.signed (sym c.lacks_sign.ensures ∙ c.if-lacks_sign.false)

pub returns-in-Normal-clause-into : goal.returns-in-Normal-clause-into
returns-in-Normal-clause-into g c =
    let d = c.args.self in
    let f = format_of g.S.Semantics in
    let negative = c.is_negative-negative.result in
    let normal : category_of c.args.x ≡ Normal = sym c.category.ensures.category ∙ c.in-Normal.is in
    let quanta = ap quanta_of c.abs.ensures ∙ positive_quanta f.nonfinite c.args.x normal in
    number_into d f c.args.rule c.args.x c.round_positive-answer.result.value
    (bits_of c.round_positive-answer.result.status) c.ne.result negative normal c.is_negative-negative.ensures
    (subst (λ (n : ℕ). IsProjectedBy d c.args.rule negative (n * 2 ^ (projected_format d).scale) (2 ^ f.scale)
    c.round_positive-answer.result.value (bits_of c.round_positive-answer.result.status)) quanta
    c.round_positive-answer.ensures.rounded) c.ne.ensures
