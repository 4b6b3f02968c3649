use Rattle.std.proofs.Common.{sym, ◌∙◌}
use Rattle.apfloat_ieee.specs.Types.{format_of}
use Rattle.apfloat_model.proofs.order.PredicatesAgree.{finite_agrees}
use Rattle.small_formats.proofs.stochastic_lemmas.UnsignedBy.{sign_by, special_unsigned}
use Rattle.small_formats.proofs.stochastic.elements.unsigned_by.Goals as goal

pub returns-then-not-is_finite : goal.returns-then-not-is_finite
returns-then-not-is_finite g c =
    let other = sym (finite_agrees c.args.x) ∙ sym c.is_finite.ensures ∙ c.if-not-is_finite.true in
    special_unsigned (format_of g.S.Semantics) c.args.mode c.args.x _ _ _ other
    (rw c.ieee_mode.ensures at c.from_value.ensures)

pub code_of-requires : goal.code_of-requires
code_of-requires g c =
    let number = sym (finite_agrees c.args.x) ∙ sym c.is_finite.ensures ∙ c.if-not-is_finite.false in
    sign_by (format_of g.S.Semantics) c.args.mode c.args.x _ _ _ number
    (sym c.is_negative.ensures ∙ c.if-is_negative.false) c.convert_by-answer.ensures
