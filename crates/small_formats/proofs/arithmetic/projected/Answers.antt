use Rattle.std.proofs.Common.{ℕ, sym, refl, ap, ◌∙◌}
use Rattle.apfloat_model.specs.{formats.Datum.finite, rounding.Flags.bits_of}
use Rattle.apfloat_ieee.specs.Types.{format_of}
use Rattle.small_formats.specs.{Codes.datum_of, Types.constants_of}
use Rattle.small_formats.proofs.{CodesCompared.zero_point, WideResults.value_projected, WideResults.zero_projected}
use Rattle.small_formats.proofs.arithmetic.projected.Goals as goal

pub returns-then-is_zero : goal.returns-then-is_zero
returns-then-is_zero g c =
    let d = constants_of g.F.StorageFormat in
    zero_projected (format_of g.S.Semantics) d c.args.round c.args.of_zero c.args.odd.value _ _ _
    (sym c.is_zero.ensures ∙ c.if-is_zero.true)
    (ap (datum_of d) c.and.ensures.value ∙ c.with_sign.ensures
    ∙ ap (λ (n : ℕ). finite c.args.of_zero n) (zero_point d.precision)) (ap bits_of c.and.ensures.status)

pub returns-then-is_finite : goal.returns-then-is_finite
returns-then-is_finite g c =
    value_projected (format_of g.S.Semantics) (constants_of g.F.StorageFormat) c.args.round c.args.of_zero
    c.args.odd.value (bits_of c.args.odd.status) _ _ _ _ (sym c.is_zero.ensures ∙ c.if-is_zero.false)
    c.from_value-answer.ensures (rw (sym c.is_finite.ensures ∙ c.if-is_finite.true) refl)

pub returns-else-is_finite : goal.returns-else-is_finite
returns-else-is_finite g c =
    value_projected (format_of g.S.Semantics) (constants_of g.F.StorageFormat) c.args.round c.args.of_zero
    c.args.odd.value (bits_of c.args.odd.status) (bits_of c.from_value-answer.result.status)
    c.and-else-is_finite.result.value (bits_of c.and-else-is_finite.result.status) c.from_value-answer.new.loses_info
    (sym c.is_zero.ensures ∙ c.if-is_zero.false) (rw c.and-else-is_finite.ensures.value c.from_value-answer.ensures)
    (ap bits_of c.and-else-is_finite.ensures.status ∙ rw (sym c.is_finite.ensures ∙ c.if-is_finite.false) refl)
