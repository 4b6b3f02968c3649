use Rattle.std.proofs.Common.{ap, arith, sym, ◌∙◌}
use Rattle.apfloat_ieee.specs.Types.{format_of}
use Rattle.apfloat_model.specs.rounding.Flags.{bits_of}
use Rattle.apfloat_model.proofs.order.PredicatesAgree.{finite_agrees}
use Rattle.small_formats.specs.Float8E3M4.{e3m4_datum, e3m4_format}
use Rattle.small_formats.proofs.NarrowCodes.{low_narrow, narrowed_datum, sided}
use Rattle.small_formats.proofs.stochastic_lemmas.ElementsBy.{past_by, special_by, within_by}
use Rattle.small_formats.proofs.stochastic.elements.e3m4_by.Goals as goal

-- The code of the wide value is that of its datum (`to_bits-code` is the call that gives it).

pub returns-then-not-is_finite : goal.returns-then-not-is_finite
returns-then-not-is_finite g c =
    let other = sym (finite_agrees c.args.x) ∙ sym c.is_finite.ensures ∙ c.if-not-is_finite.true in
    special_by (format_of g.S.Semantics) e3m4_format c.args.mode c.args.x _ _ _ other
    (rw c.ieee_mode.ensures at c.from_value.ensures)

pub returns-then-code-gt-LARGEST : goal.returns-then-code-gt-LARGEST
returns-then-code-gt-LARGEST g c =
    let f = format_of g.S.Semantics in
    let number = sym (finite_agrees c.args.x) ∙ sym c.is_finite.ensures ∙ c.if-not-is_finite.false in
    let side = rw c.to_bits-code.ensures.back at (sided c.to_bits-code.result c.to_bits-code.ensures.below) in
    past_by f c.args.mode c.args.x c.convert_by-answer.result.value _ _ _ c.to_bits-code.result _ number side
    (omega (arith, c.if-code-gt-LARGEST.true)) c.convert_by-answer.ensures
    (rw (c.ieee_mode-then-code-gt-LARGEST.ensures, c.is_negative.ensures) at c.past.ensures.value)
    (rw (c.ieee_mode-then-code-gt-LARGEST.ensures, c.is_negative.ensures) at c.past.ensures.status)

pub narrowed-requires : goal.narrowed-requires
narrowed-requires g c =
    low_narrow c.to_bits-code.result c.to_bits-code.ensures.below (omega (arith, c.if-code-gt-LARGEST.false))

pub returns : goal.returns
returns g c =
    let f = format_of g.S.Semantics in
    let number = sym (finite_agrees c.args.x) ∙ sym c.is_finite.ensures ∙ c.if-not-is_finite.false in
    let side = rw c.to_bits-code.ensures.back at (sided c.to_bits-code.result c.to_bits-code.ensures.below) in
    let narrow = low_narrow c.to_bits-code.result c.to_bits-code.ensures.below
    (omega (arith, c.if-code-gt-LARGEST.false)) in
    let datum = ap e3m4_datum (c.and.ensures.value ∙ c.from_bits.ensures ∙ c.narrowed.ensures)
    ∙ narrowed_datum c.to_bits-code.result narrow ∙ c.to_bits-code.ensures.back in
    let status = ap bits_of c.and.ensures.status in
    rw (datum, status) (within_by f c.args.mode c.args.x _ _ c.to_bits-code.result _ number side
    (omega (arith, c.if-code-gt-LARGEST.false)) c.convert_by-answer.ensures)
