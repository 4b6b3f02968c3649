use Rattle.std.proofs.Common.{ℕ, false, max, ap, ◌∙◌, sym, subst}
use Rattle.apfloat_model.specs.formats.{Datum.Datum, Datum.finite, Members.IsMember}
use Rattle.apfloat_model.specs.order.Classes.{quanta_of}
use Rattle.apfloat_model.proofs.order.{PositiveValues.magnitude_positive, Categories.normal_quanta}
use Rattle.apfloat_ieee.specs.Types.{format_of}
use Rattle.small_formats.proofs.blocks_lemmas.Greatest.{finite_magnitude, no_quanta}
use Rattle.small_formats.proofs.blocks.magnitudes.greater.Goals as goal

pub larger-requires-clause-y : goal.larger-requires-clause-y
larger-requires-clause-y g c =
    (magnitude_positive (format_of g.S.Semantics) c.args.x c.abs.result
    (sym c.category.ensures.category ∙ c.in-Normal.is) c.category.ensures.member c.abs.ensures).is

pub larger-requires-clause-y_member : goal.larger-requires-clause-y_member
larger-requires-clause-y_member g c =
    let p = magnitude_positive (format_of g.S.Semantics) c.args.x c.abs.result
    (sym c.category.ensures.category ∙ c.in-Normal.is) c.category.ensures.member c.abs.ensures in
    subst (λ (d : Datum). IsMember (format_of g.S.Semantics) d) (sym p.is) p.member

pub returns-in-Normal-clause-value : goal.returns-in-Normal-clause-value
returns-in-Normal-clause-value g c =
    let x = c.args.x in
    let some = normal_quanta x (sym c.category.ensures.category ∙ c.in-Normal.is) in
    let at = finite_magnitude (format_of g.S.Semantics).nonfinite x c.abs.result c.requires.finite some c.abs.ensures in
    c.larger.ensures.value ∙ ap (λ (n : ℕ). finite false (max n (quanta_of c.args.greatest))) (ap quanta_of at)

pub returns-in_default-clause-value : goal.returns-in_default-clause-value
returns-in_default-clause-value g c =
    let none = no_quanta c.args.x c.requires.finite
    (λ e. c.in_default.not-Normal (c.category.ensures.category ∙ e)) (quanta_of c.args.greatest) in
    c.requires.greatest ∙ ap (λ (n : ℕ). finite false n) (sym none)
